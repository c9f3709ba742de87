use Rattle.std.proofs.Common.{◌≡◌}
use Rattle.tf_schedule.specs.Lanes.{stop_by}
use Rattle.tf_schedule.specs.Stops.{total_of}
use Rattle.tf_schedule.proofs.cost.total_by.Given as goal

abbrev pub invariant-loop-k : goal.invariant-loop-k
invariant-loop-k g l = l.sum ≡ total_of l.task (stop_by l.extents) l.k
