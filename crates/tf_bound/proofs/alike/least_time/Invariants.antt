use Rattle.std.proofs.Common.{◌≡◌, ◌≤◌, map, min, fold, take, slice_index}
use Rattle.tf_model.specs.Limit.{limit}
use Rattle.tf_posed.specs.ProblemData.{problem_time}
use Rattle.tf_bound.proofs.alike.least_time.Given as goal

abbrev pub invariant-loop-job : goal.invariant-loop-job
invariant-loop-job g l = record {
  least : l.least
      ≡ fold min (problem_time l.task (slice_index l.jobs 0))
      (map (problem_time l.task) (take l.job-index l.jobs));
  small : l.least ≤ limit;
}
