use Rattle.std.proofs.Common.{take}
use Rattle.std.specs.List.{All}
use Rattle.tf_schedule.specs.Condition.{StartsAfter}
use Rattle.tf_schedule.proofs.fit.first_out_of_order.Given as goal

abbrev pub invariant-loop-arc : goal.invariant-loop-arc
invariant-loop-arc g l = All (StartsAfter l.lanes) (take l.arc-index l.arcs)
