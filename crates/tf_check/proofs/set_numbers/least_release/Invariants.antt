use Rattle.std.proofs.Common.{◌≡◌, ◌≤◌, min, map, fold, take, slice_index}
use Rattle.tf_model.specs.SchedulingTask.{job_data}
use Rattle.tf_check.proofs.set_numbers.least_release.Given as goal

-- the least release date so far
abbrev pub invariant-loop-job : goal.invariant-loop-job
invariant-loop-job g l = record {
  least : l.least
      ≡ fold min (job_data l.task (slice_index l.jobs 0)).release
      (map (λ j. (job_data l.task j).release) (take l.job-index l.jobs));
  narrow : l.least ≤ (job_data l.task (slice_index l.jobs 0)).release;
}
