-- The task of a class that asks less than the task of a problem does.
use Rattle.std.specs.Prelude.{ℕ, ℤ, pos, ◌+ℤ◌, ◌≤ℤ◌, [], map}
use Rattle.tf_model.specs.declared.class.Class.{Class}
use Rattle.tf_model.specs.declared.class.Class.TheVariants.{ReleaseLmax, ParallelPrmp, ParallelSum, PrmpWeightedSum, PrmpFlowTwo}
use Rattle.tf_model.specs.SchedulingTask.{SchedulingTask, JobData}
use Rattle.tf_model.specs.Timetable.{Timetable}
use Rattle.tf_model.specs.Feasible.{Fits}
use Rattle.tf_model.specs.Cost.{cost}
use Rattle.tf_posed.specs.ProblemData.{ProblemData, problem_jobs, problem_job, problem_time, problem_time_on, problem_release}
use Rattle.tf_posed.specs.FitsProblem.{FitsProblem}
use Rattle.tf_posed.specs.ProblemCost.{problem_cost}

-- Each timetable that fits the task gives one that fits the task of the class and costs less,
-- by `more` at least.
abbrev pub IsRelaxation : ProblemData → SchedulingTask → ℤ → Type 0
IsRelaxation k relaxed more = (rows : Timetable) → FitsProblem k rows
    → (other : Timetable) × Fits relaxed other × ((cost relaxed other +ℤ more) ≤ℤ problem_cost k rows)

-- the task of a class with as many jobs, each with the data that f gives, and no arcs
abbrev pub task_by : ProblemData → Class → ℕ → (ℕ → JobData) → SchedulingTask
task_by k class machines f =
    record { class = class; machines = machines; jobs = map f (problem_jobs k); costs = []; arcs = [] }

-- a job with one time, and nothing else that counts
abbrev pub only_time : ℕ → JobData
only_time p = record { first = p; second = 0; weight = 1; release = 0; due = pos 0 }

-- ---- conditions dropped

-- `1|rj,prmp|Lmax`: the jobs with their times, release dates and due dates
abbrev pub window_task : ProblemData → SchedulingTask
window_task k = task_by k ReleaseLmax 1 (λ j. record (only_time (problem_time k j)) {
  release = problem_release k j;
  due = (problem_job k j).due;
})

-- `P|prmp|Cmax`: the jobs with their times
abbrev pub load_task : ProblemData → SchedulingTask
load_task k = task_by k ParallelPrmp k.machines (λ j. only_time (problem_time k j))

-- `P||sumC`: the jobs with their times
abbrev pub rank_task : ProblemData → SchedulingTask
rank_task k = task_by k ParallelSum k.machines (λ j. only_time (problem_time k j))

-- ---- one and two machines

-- `1|prmp|sumwC`: the jobs with their times on machine a, and a weight for each
abbrev pub weighed_task : ProblemData → ℕ → (ℕ → ℕ) → SchedulingTask
weighed_task k a w =
    task_by k PrmpWeightedSum 1 (λ j. record (only_time (problem_time_on k j a)) { weight = w j })

-- `F2|prmp|Cmax`: the jobs with their times on machines a and b
abbrev pub pair_task : ProblemData → ℕ → ℕ → SchedulingTask
pair_task k a b = task_by k PrmpFlowTwo 2 (λ j. record (only_time (problem_time_on k j a)) {
  second = problem_time_on k j b;
})
