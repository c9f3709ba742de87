use Rattle.std.proofs.Common.{◌≡◌, ◌*◌, ◌≤◌, sum_by, take}
use Rattle.tf_model.specs.Limit.{limit}
use Rattle.tf_posed.specs.ProblemData.{problem_time_on}
use Rattle.tf_bound.proofs.machine.work_on.Given as goal

abbrev pub invariant-loop-job : goal.invariant-loop-job
invariant-loop-job g l = record {
  value : l.work ≡ sum_by (λ j. problem_time_on l.task j l.machine) (take l.job-index l.jobs);
  small : l.work ≤ l.job-index * limit;
}
