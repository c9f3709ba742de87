use Rattle.std.proofs.Common.{◌≡◌, ℕ, ℤ, pos, ◌-ℤ◌, map, fold, take, slice_index}
use Rattle.std.specs.Int.{int_min}
use Rattle.tf_posed.specs.ProblemData.{ProblemData, problem_due}
use Rattle.tf_problem.specs.ProblemBounds.{tail}
use Rattle.tf_bound.proofs.machine.least_rest.Given as goal

abbrev pub rest : ProblemData → ℕ → ℕ → ℤ
rest k a j = pos (tail k a j) -ℤ problem_due k j

abbrev pub invariant-loop-job : goal.invariant-loop-job
invariant-loop-job g l = l.least
    ≡ fold int_min (rest l.task l.machine (slice_index l.jobs 0))
    (map (rest l.task l.machine) (take l.job-index l.jobs))
