use Rattle.std.proofs.Common.{◌≡◌}
use Rattle.tf_schedule.specs.Cost.{known_pieces}
use Rattle.tf_schedule.specs.Stops.{total_to}
use Rattle.tf_schedule.proofs.cost.with_block.Given as goal

abbrev pub invariant-loop-i : goal.invariant-loop-i
invariant-loop-i g l = l.sum ≡ total_to l.task (known_pieces l.task l.pieces) l.i
