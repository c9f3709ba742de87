-- The numbers of the jobs of a task by which dates follow along its arcs.
use Rattle.std.specs.Prelude.{ℕ, pos, ◌-ℤ◌}
use Rattle.tf_model.specs.Limit.{limit}
use Rattle.tf_model.specs.Whole.{as_time}
use Rattle.tf_posed.specs.ProblemData.{ProblemData, problem_release, problem_due}
use Rattle.tf_problem.specs.ProblemBounds.{problem_work}
use Rattle.tf_bound.specs.declared.pushed.Number.{Number}
use Rattle.tf_bound.specs.declared.pushed.Number.TheVariants.{Release, Work, Tail}

-- a release date, a time, or how long before the limit a job is due
abbrev pub number_by : Number → ProblemData → ℕ → ℕ
number_by Release k j = problem_release k j
number_by Work k j = problem_work k j
number_by Tail k j = as_time (pos limit -ℤ problem_due k j)
