use Rattle.std.proofs.Common.{◌≡◌, sum_by, take}
use Rattle.tf_model.specs.SchedulingTask.{time_of}
use Rattle.tf_check.proofs.set_numbers.work_of.Given as goal

abbrev pub invariant-loop-job : goal.invariant-loop-job
invariant-loop-job g l = l.work ≡ sum_by (time_of l.task) (take l.job-index l.jobs)
