use Rattle.std.proofs.Common.{ℕ, ◌≤◌, ◌==◌, filter}
use Rattle.std.specs.List.{range_with_len}
use Rattle.std.specs.List.Sorted.{IsPermutation}
use Rattle.tf_model.specs.Limit.{limit}
use Rattle.tf_single.specs.Progress.{of_job}
use Rattle.tf_single.proofs.backward.Open.new.Given as goal

abbrev pub invariant-loop-k : goal.invariant-loop-k
invariant-loop-k g l = record {
  jobs : IsPermutation (filter (λ j. of_job l.counts.items j == 0) (range_with_len 1 l.k))
      (g.F.FreeJobs.jobs_of l.free);
  kept : (work : ℕ) → work ≤ limit → g.F.FreeJobs.IsKept l.free l.task work;
}
