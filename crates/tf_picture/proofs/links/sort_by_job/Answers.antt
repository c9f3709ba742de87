use Rattle.std.proofs.Common.{rules}
use Rattle.std.proofs.lemmas.Fn.{always_returns_same}
use Rattle.tf_schedule.specs.Piece.{job_of}
use Rattle.tf_schedule.proofs.Order.{in_order_from_sort, place_by}
use Rattle.tf_picture.proofs.links.sort_by_job.Goals as goal

pub returns-clause-in_order : goal.returns-clause-in_order
returns-clause-in_order g c =
    in_order_from_sort job_of c.sort_unstable_by_key.new.self.items
    (c.sort_unstable_by_key.ensures.sorted (place_by job_of)
    (always_returns_same _ _ _ (λ a r f called. search rules)))
