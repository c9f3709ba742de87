use Rattle.std.proofs.Common.{◌≡◌, map, take}
use Rattle.tf_schedule.specs.declared.piece.Piece.{Piece}
use Rattle.tf_plan.proofs.order.jobs_of.Given as goal

abbrev pub invariant-loop-piece : goal.invariant-loop-piece
invariant-loop-piece g l = l.jobs.items ≡ map (λ (p : Piece). p.job) (take l.piece-index l.pieces)
