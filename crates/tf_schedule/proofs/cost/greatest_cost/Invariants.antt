use Rattle.std.proofs.Common.{ℕ, ◌≤ℤ◌, take}
use Rattle.std.specs.List.{All}
use Rattle.tf_model.specs.SchedulingTask.{IsJob}
use Rattle.tf_model.specs.Cost.{price, greatest_price}
use Rattle.tf_schedule.specs.Drawing.{drawing, stop_of}
use Rattle.tf_schedule.specs.Misfit.{IsKnown}
use Rattle.tf_schedule.specs.Cost.{known_pieces}
use Rattle.tf_schedule.proofs.cost.greatest_cost.Given as goal

abbrev pub invariant-loop-piece : goal.invariant-loop-piece
invariant-loop-piece g l = record {
  below : l.value ≤ℤ greatest_price l.task (drawing l.task.machines (known_pieces l.task l.pieces));
  idle : (j : ℕ) → IsJob l.task j → price l.task j 0 ≤ℤ l.value;
  over : All (λ p. IsKnown l.task p → price l.task p.job (stop_of p) ≤ℤ l.value)
      (take l.piece-index l.pieces);
}
