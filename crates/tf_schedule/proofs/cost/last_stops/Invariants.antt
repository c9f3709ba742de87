use Rattle.std.proofs.Common.{take}
use Rattle.tf_schedule.specs.Cost.{known_pieces}
use Rattle.tf_schedule.specs.Stops.{HasStops}
use Rattle.tf_schedule.proofs.cost.last_stops.Given as goal

abbrev pub invariant-loop-piece : goal.invariant-loop-piece
invariant-loop-piece g l =
    HasStops (known_pieces l.task (take l.piece-index l.pieces)) l.first l.stops
