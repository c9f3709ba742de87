use Rattle.std.proofs.Common.{◌≡◌, sum_by, take}
use Rattle.tf_model.specs.SchedulingTask.{time_on}
use Rattle.tf_evaluate.proofs.arithmetic.work_on_first.Given as goal

abbrev pub invariant-loop-job : goal.invariant-loop-job
invariant-loop-job g l = l.work ≡ sum_by (λ j. time_on l.task j 0) (take l.job-index l.jobs)
