use Rattle.std.proofs.Common.{◌≡◌, ◌*◌, sum_by}
use Rattle.std.specs.List.{range_with_len}
use Rattle.tf_problem.specs.ProblemBounds.{numerator}
use Rattle.tf_bound.specs.Faulted.{wait_from}
use Rattle.tf_bound.proofs.multipliers.waits.Given as goal

abbrev pub invariant-loop-k : goal.invariant-loop-k
invariant-loop-k g l =
    l.sum
    ≡ sum_by (λ j. numerator l.u j * wait_from l.task l.machine l.first j) (range_with_len 1 l.k)
