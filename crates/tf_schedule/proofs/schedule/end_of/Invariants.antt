use Rattle.std.proofs.Common.{◌≡◌, pos, take}
use Rattle.tf_schedule.specs.Drawing.{greatest_stop}
use Rattle.tf_schedule.proofs.schedule.end_of.Given as goal

abbrev pub invariant-loop-piece : goal.invariant-loop-piece
invariant-loop-piece l = l.end ≡ pos (greatest_stop (take l.piece-index l.pieces))
