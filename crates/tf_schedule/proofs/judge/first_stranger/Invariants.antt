use Rattle.std.proofs.Common.{take}
use Rattle.std.specs.List.{All}
use Rattle.tf_schedule.specs.ProblemMisfit.{IsKnownTo}
use Rattle.tf_schedule.proofs.judge.first_stranger.Given as goal

abbrev pub invariant-loop-piece : goal.invariant-loop-piece
invariant-loop-piece g l = All (IsKnownTo (g.T.Asks.posed l.task)) (take l.piece-index l.pieces)
