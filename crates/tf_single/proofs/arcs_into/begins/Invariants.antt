use Rattle.std.proofs.Common.{◌≡◌, ℕ, ◌+◌, ◌≤◌, ◌<◌, length}
use Rattle.tf_model.specs.SchedulingTask.{IsJob}
use Rattle.tf_single.specs.ArcsInto.{arcs_before}
use Rattle.tf_single.specs.Progress.{of_job}
use Rattle.tf_single.proofs.ArcsInto.{arcs_to}
use Rattle.tf_single.proofs.arcs_into.begins.Given as goal

abbrev pub invariant-loop-place : goal.invariant-loop-place
invariant-loop-place g l = record {
  len : length l.begins.items ≡ length l.task.jobs;
  begin : l.begin ≡ arcs_before l.task.arcs (l.place + 1);
  done : (j : ℕ) → IsJob l.task j → j ≤ l.place
      → of_job l.begins.items j ≡ arcs_before l.task.arcs j;
  left : (j : ℕ) → IsJob l.task j → l.place < j
      → of_job l.begins.items j ≡ arcs_to l.task.arcs j;
}
