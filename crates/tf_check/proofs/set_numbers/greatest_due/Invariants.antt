use Rattle.std.proofs.Common.{◌≡◌, map, fold, take, slice_index}
use Rattle.std.specs.Int.{int_max}
use Rattle.tf_model.specs.SchedulingTask.{job_data}
use Rattle.tf_check.proofs.set_numbers.greatest_due.Given as goal

abbrev pub invariant-loop-job : goal.invariant-loop-job
invariant-loop-job g l = l.greatest
    ≡ fold int_max (job_data l.task (slice_index l.jobs 0)).due
    (map (λ j. (job_data l.task j).due) (take l.job-index l.jobs))
