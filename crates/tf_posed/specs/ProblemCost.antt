-- What a timetable of any problem costs, and when no timetable costs less than a number.
use Rattle.std.specs.Prelude.{◌≡◌, ℕ, ◌*◌, ℤ, pos, ◌-ℤ◌, ◌≤ℤ◌, int_lt, if◌then◌else◌}
use Rattle.std.specs.List.{sum_by}
use Rattle.tf_model.specs.declared.problem.Goal.{Goal}
use Rattle.tf_model.specs.declared.problem.Goal.TheVariants as goals
use Rattle.tf_model.specs.Timetable.{Timetable, completion}
use Rattle.tf_model.specs.Cost.{greatest}
use Rattle.tf_model.specs.Whole.{as_time}
use Rattle.tf_posed.specs.ProblemData.{ProblemData, problem_jobs, problem_job}
use Rattle.tf_posed.specs.FitsProblem.{FitsProblem}

-- the completion minus the due date
abbrev pub lateness : ProblemData → ℕ → ℕ → ℤ
lateness k j c = pos c -ℤ (problem_job k j).due

-- the lateness, or 0 where it is negative
abbrev pub tardiness : ProblemData → ℕ → ℕ → ℕ
tardiness k j c = as_time (lateness k j c)

-- 1 if the job completes after its due date, and otherwise 0
abbrev pub unit_penalty : ProblemData → ℕ → ℕ → ℕ
unit_penalty k j c = if int_lt (problem_job k j).due (pos c) then 1 else 0

-- what job j adds to a sum if it completes at c
abbrev pub penalty : Goal → ProblemData → ℕ → ℕ → ℕ
penalty goals.SumC k j c = c
penalty goals.SumWC k j c = (problem_job k j).weight * c
penalty goals.SumT k j c = tardiness k j c
penalty goals.SumWT k j c = (problem_job k j).weight * tardiness k j c
penalty goals.SumU k j c = unit_penalty k j c
penalty goals.SumWU k j c = (problem_job k j).weight * unit_penalty k j c
penalty _ k j c = 0

abbrev pub problem_cost_by : Goal → ProblemData → Timetable → ℤ
problem_cost_by goals.Cmax k rows = greatest (λ j. pos (completion rows j)) (problem_jobs k)
problem_cost_by goals.Lmax k rows = greatest (λ j. lateness k j (completion rows j)) (problem_jobs k)
problem_cost_by goal k rows = pos (sum_by (λ j. penalty goal k j (completion rows j)) (problem_jobs k))

-- The makespan, the maximum lateness, or the sum over all jobs. The objective `hmax`, of cost
-- functions that this task does not have, is given no meaning here.
abbrev pub problem_cost : ProblemData → Timetable → ℤ
problem_cost k rows = problem_cost_by k.problem.goal k rows

-- every timetable that fits costs at least b
abbrev pub IsLowerBound : ProblemData → ℤ → Type 0
IsLowerBound k b = (rows : Timetable) → FitsProblem k rows → b ≤ℤ problem_cost k rows

-- the timetable fits and costs v, and no timetable that fits costs less
pub record IsProblemBest (k : ProblemData) (rows : Timetable) (v : ℤ) : Type 0 where
  pub fits : FitsProblem k rows
  pub value : problem_cost k rows ≡ v
  pub least : IsLowerBound k v
