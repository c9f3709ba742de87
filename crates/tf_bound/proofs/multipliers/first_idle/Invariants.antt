use Rattle.std.proofs.Common.{ℕ, ◌≤◌}
use Rattle.tf_posed.specs.ProblemData.{problem_time_on}
use Rattle.tf_bound.specs.Faulted.{timed_machine}
use Rattle.tf_bound.proofs.multipliers.first_idle.Given as goal

abbrev pub invariant-loop-k : goal.invariant-loop-k
invariant-loop-k g l =
    (j : ℕ) → 1 ≤ j → j ≤ l.k → 1 ≤ problem_time_on l.task j (timed_machine l.task l.machine)
