use Rattle.std.proofs.Common.{◌*◌, map, take}
use Rattle.tf_schedule.specs.Lanes.{HasLanes}
use Rattle.tf_schedule.specs.Operation.{operation_piece}
use Rattle.tf_schedule.proofs.operations.shop_operations.Given as goal

abbrev pub invariant-loop-piece : goal.invariant-loop-piece
invariant-loop-piece g l =
    HasLanes (l.jobs * l.machines)
    (take l.piece-index (map (operation_piece l.machines) l.pieces)) l.lanes
