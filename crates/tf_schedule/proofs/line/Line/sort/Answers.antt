use Rattle.std.proofs.Common.{rules}
use Rattle.std.proofs.lemmas.Fn.{always_returns_same}
use Rattle.tf_schedule.specs.Line.{line_of}
use Rattle.tf_schedule.proofs.Order.{in_order_from_sort, place_by}
use Rattle.tf_schedule.proofs.line.Line.sort.Goals as goal

pub returns-clause-in_order : goal.returns-clause-in_order
returns-clause-in_order g c =
    in_order_from_sort (line_of c.args.self) c.sort_unstable_by_key.new.self.items
    (c.sort_unstable_by_key.ensures.sorted (place_by (line_of c.args.self))
    (always_returns_same _ _ _ (λ a r f called. search rules)))
