use Rattle.std.proofs.Common.{◌≡◌, ◌≤◌, sum_by, take}
use Rattle.tf_model.specs.Limit.{limit}
use Rattle.tf_posed.specs.ProblemData.{problem_weight}
use Rattle.tf_bound.proofs.kept_weight.weight_within.Given as goal

abbrev pub invariant-loop-job : goal.invariant-loop-job
invariant-loop-job g l = record {
  value : l.total ≡ sum_by (problem_weight l.task) (take l.job-index l.jobs);
  small : l.total ≤ limit;
}
