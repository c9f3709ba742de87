use Rattle.std.proofs.Common.{◌≡◌, ℕ, ◌≤◌, ◌≤ℤ◌}
use Rattle.tf_model.specs.SchedulingTask.{IsJob}
use Rattle.tf_model.specs.Cost.{price}
use Rattle.tf_schedule.specs.Lanes.{stop_by}
use Rattle.tf_schedule.proofs.cost.greatest_by.Given as goal

abbrev pub invariant-loop-k : goal.invariant-loop-k
invariant-loop-k g l = record {
  all : (j : ℕ) → 1 ≤ j → j ≤ l.k → price l.task j (stop_by l.extents j) ≤ℤ l.value;
  reached : (j : ℕ) × IsJob l.task j × (l.value ≡ price l.task j (stop_by l.extents j));
}
