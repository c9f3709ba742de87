use Rattle.std.proofs.Common.{ℕ, ◌<◌, ◌≤◌}
use Rattle.tf_model.specs.SchedulingTask.{time_of}
use Rattle.tf_multi.proofs.longest.first_longest.Given as goal

abbrev pub invariant-loop-k : goal.invariant-loop-k
invariant-loop-k g l = record {
  from_one : 0 < l.longest;
  seen : l.longest ≤ l.k;
  longest : (i : ℕ) → 1 ≤ i → i ≤ l.k → time_of l.task i ≤ time_of l.task l.longest;
  first : (i : ℕ) → 1 ≤ i → i < l.longest → time_of l.task i < time_of l.task l.longest;
}
