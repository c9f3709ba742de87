use Rattle.std.proofs.Common.{◌≡◌, ◌+◌, ◌-◌, ◌≤◌, min, length}
use Rattle.tf_schedule.specs.Cost.{known_pieces}
use Rattle.tf_schedule.specs.Stops.{total_to}
use Rattle.tf_schedule.proofs.cost.total_cost.Given as goal

abbrev pub invariant-loop-first : goal.invariant-loop-first
invariant-loop-first g l = record {
  sum : l.total ≡ total_to l.task (known_pieces l.task l.pieces) (min (length l.task.jobs) l.first);
  near : l.first ≤ length l.task.jobs + 4096;
}

abbrev pub decreases-loop-first : goal.decreases-loop-first
decreases-loop-first g l = l.jobs - l.first
