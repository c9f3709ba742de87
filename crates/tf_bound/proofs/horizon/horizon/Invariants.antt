use Rattle.std.proofs.Common.{◌≡◌, ◌+◌, ◌≤◌, map, max, sum_by}
use Rattle.std.specs.List.{fold, range_with_len}
use Rattle.tf_model.specs.Limit.{limit}
use Rattle.tf_posed.specs.ProblemData.{problem_release}
use Rattle.tf_problem.specs.ProblemBounds.{problem_work}
use Rattle.tf_bound.specs.Sized.{all_work}
use Rattle.tf_bound.proofs.horizon.horizon.Given as goal

abbrev pub invariant-loop-k : goal.invariant-loop-k
invariant-loop-k g l = record {
  last : l.last ≡ fold max 0 (map (problem_release l.task) (range_with_len 1 l.k));
  work : l.work ≡ sum_by (problem_work l.task) (range_with_len 1 l.k);
  small : l.last + all_work l.task ≤ limit;
}
