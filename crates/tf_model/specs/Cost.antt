-- What a timetable costs, and when it is best.
use Rattle.std.specs.Prelude.{◌≡◌, ℕ, ◌*◌, ℤ, pos, ◌-ℤ◌, ◌≤ℤ◌, List, [], ◌∷◌, map}
use Rattle.std.specs.List.{fold, sum_by}
use Rattle.std.specs.Int.{int_max}
pub use Rattle.tf_model.specs.ClassTable.{Objective, Makespan, Lateness, Dearest, Total, objective_of}
use Rattle.tf_model.specs.Timetable.{Timetable, completion}
use Rattle.tf_model.specs.SchedulingTask.{SchedulingTask, all_jobs, job_data, costs_of}
use Rattle.tf_model.specs.Steps.{step_value}
use Rattle.tf_model.specs.Feasible.{Fits}

-- what job j costs if it completes at c
abbrev pub price_by : Objective → SchedulingTask → ℕ → ℕ → ℤ
price_by Makespan k j c = pos c
price_by Lateness k j c = pos c -ℤ (job_data k j).due
price_by Dearest k j c = step_value (costs_of k j) c
price_by Total k j c = pos ((job_data k j).weight * c)

abbrev pub price : SchedulingTask → ℕ → ℕ → ℤ
price k = price_by (objective_of k.class) k

-- the greatest that f gives along the list, 0 if it is empty
abbrev pub greatest : (ℕ → ℤ) → List ℕ → ℤ
greatest f [] = pos 0
greatest f (j ∷ jobs) = fold int_max (f j) (map f (j ∷ jobs))

-- the greatest price of the jobs 1 to n, each at its completion
abbrev pub greatest_price : SchedulingTask → Timetable → ℤ
greatest_price k rows = greatest (λ j. price k j (completion rows j)) (all_jobs k)

-- the weighted sum of the completions
abbrev pub total_price : SchedulingTask → Timetable → ℕ
total_price k rows = sum_by (λ j. (job_data k j).weight * completion rows j) (all_jobs k)

abbrev pub cost_by : Objective → SchedulingTask → Timetable → ℤ
cost_by Total k rows = pos (total_price k rows)
cost_by Makespan k rows = greatest_price k rows
cost_by Lateness k rows = greatest_price k rows
cost_by Dearest k rows = greatest_price k rows

abbrev pub cost : SchedulingTask → Timetable → ℤ
cost k rows = cost_by (objective_of k.class) k rows

-- the timetable fits, costs v, and none that fits costs less
pub record IsBest (k : SchedulingTask) (rows : Timetable) (v : ℤ) : Type 0 where
  pub fits : Fits k rows
  pub value : cost k rows ≡ v
  pub least : (other : Timetable) → Fits k other → v ≤ℤ cost k other
