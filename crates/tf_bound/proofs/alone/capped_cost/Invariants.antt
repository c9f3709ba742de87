use Rattle.std.proofs.Common.{◌≡◌, ◌+◌, min, sum_by}
use Rattle.std.specs.List.{range_with_len}
use Rattle.tf_bound.specs.Certified.{most_value}
use Rattle.tf_posed.specs.ProblemData.{problem_release}
use Rattle.tf_posed.specs.ProblemCost.{penalty}
use Rattle.tf_problem.specs.ProblemBounds.{problem_work}
use Rattle.tf_bound.proofs.alone.capped_cost.Given as goal

abbrev pub invariant-loop-k : goal.invariant-loop-k
invariant-loop-k g l =
    l.sum ≡ min (sum_by (λ j. penalty l.task.problem.goal l.task j
    (problem_release l.task j + problem_work l.task j)) (range_with_len 1 l.k)) most_value
