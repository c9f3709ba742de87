-- What a timetable costs by any objective, by the completions of the jobs.
use Rattle.std.specs.Prelude.{◌≡◌, ℕ, ◌^◌, ℤ, pos, ◌≤ℤ◌, length, Option, None, Some}
use Rattle.std.specs.List.{sum_by, range_with_len}
use Rattle.tf_model.specs.declared.problem.Goal.{Goal}
use Rattle.tf_model.specs.declared.problem.Goal.TheVariants as goals
use Rattle.tf_model.specs.Cost.{greatest}
use Rattle.tf_posed.specs.ProblemData.{ProblemData, problem_jobs}
use Rattle.tf_posed.specs.ProblemCost.{lateness, penalty}

-- of a job that completes at c: the completion, for the maximum lateness less its due date
abbrev pub price_at : Goal → ProblemData → ℕ → ℕ → ℤ
price_at goals.Lmax k j c = lateness k j c
price_at _ k j c = pos c

-- what an objective counts of a job that completes at c: the completion, the lateness, or what the
-- job adds to the sum
abbrev pub counted_at : Goal → ProblemData → ℕ → ℕ → ℤ
counted_at goals.Cmax k j c = pos c
counted_at goals.Lmax k j c = lateness k j c
counted_at goal k j c = pos (penalty goal k j c)

-- the sum over the jobs 1 to n, of which job j completes at `at j`
abbrev pub sum_at : Goal → ProblemData → (ℕ → ℕ) → ℕ → ℕ
sum_at goal k at n = sum_by (λ j. penalty goal k j (at j)) (range_with_len 1 n)

-- what a timetable costs if job j completes at `at j`
abbrev pub cost_at : Goal → ProblemData → (ℕ → ℕ) → ℤ
cost_at goals.Cmax k at = greatest (λ j. price_at goals.Cmax k j (at j)) (problem_jobs k)
cost_at goals.Lmax k at = greatest (λ j. price_at goals.Lmax k j (at j)) (problem_jobs k)
cost_at goal k at = pos (sum_at goal k at (length k.jobs))

-- it is the value, or where there is none, 2 ^ 127 or more
abbrev pub IsCostOrBeyond : Option ℤ → ℤ → Type 0
IsCostOrBeyond (Some value) cost = value ≡ cost
IsCostOrBeyond None cost = pos (2 ^ 127) ≤ℤ cost
