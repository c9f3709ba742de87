use Rattle.std.proofs.Common.{heap_items}
use Rattle.tf_bound.proofs.Remaining.{least-of, le_from_shortest}
use Rattle.tf_bound.proofs.shortest.take_shortest.Goals as goal

pub returns-in-Some-clause-least : goal.returns-in-Some-clause-least
returns-in-Some-clause-least g c =
    least-of c.in-Some.field-0 (heap_items c.args.times.now) (heap_items c.pop.new.self)
    c.in-Some.ensures.permutation
    (le_from_shortest c.in-Some.field-0 (heap_items c.pop.new.self)
    (c.in-Some.ensures.below_top c.requires.heap))
