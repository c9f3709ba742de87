use Rattle.std.proofs.Common.{rules}
use Rattle.std.proofs.lemmas.Fn.{always_returns_same}
use Rattle.tf_schedule.specs.Passing.{rank_in}
use Rattle.tf_schedule.proofs.Passing.{by_key}
use Rattle.tf_schedule.proofs.job_order.by_rank.Goals as goal

pub returns-clause-in_order : goal.returns-clause-in_order
returns-clause-in_order g c =
    by_key (rank_in c.args.ranks.now) c.sort_unstable_by_key.new.self.items
    (c.sort_unstable_by_key.ensures.sorted (rank_in c.args.ranks.now)
    (always_returns_same _ _ _ (λ a r f called. search rules)))
