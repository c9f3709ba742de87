use Rattle.std.proofs.Common.{ℕ, ◌*◌, ◌≤◌}
use Rattle.tf_posed.specs.ProblemData.{problem_weight}
use Rattle.tf_problem.specs.ProblemBounds.{numerator}
use Rattle.tf_bound.proofs.multipliers.first_beyond.Given as goal

abbrev pub invariant-loop-k : goal.invariant-loop-k
invariant-loop-k g l =
    (j : ℕ) → 1 ≤ j → j ≤ l.k → numerator l.v j ≤ l.q * problem_weight l.task j
