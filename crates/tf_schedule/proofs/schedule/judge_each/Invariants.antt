use Rattle.std.proofs.Common.{take}
use Rattle.std.specs.List.{All}
use Rattle.tf_schedule.specs.Schedule.{IsPiece}
use Rattle.tf_schedule.proofs.schedule.judge_each.Given as goal

abbrev pub invariant-loop-k : goal.invariant-loop-k
invariant-loop-k l = All IsPiece (take l.k l.pieces)
