-- The laws: numbers that every timetable of the task of a problem costs at least. Each law is the
-- contract of a call in src/laws.rt.
use Rattle.std.specs.Prelude.{◌≡◌, ℕ, ◌*◌, ◌≤◌, ◌<◌, ◌+◌, ℤ, pos, ◌+ℤ◌, List, length, Ok, ◌||◌, IsTrue, IsFalse}
use Rattle.std.specs.List.{All}
use Rattle.tf_model.specs.declared.problem.Goal.TheVariants as goals
use Rattle.tf_model.specs.ClassTable.{is_single_env, is_parallel_env, is_flow_env, is_shop_env}
use Rattle.tf_model.specs.Distinct.{IsDistinct}
use Rattle.tf_model.specs.SchedulingTask.{SchedulingTask}
use Rattle.tf_model.specs.Timetable.{Timetable}
use Rattle.tf_model.specs.Sound.{IsSound}
use Rattle.tf_model.specs.Cost.{IsBest}
use Rattle.tf_check.specs.Claim.{Claim}
use Rattle.tf_check.specs.Bound.{bound_by}
use Rattle.tf_posed.specs.ProblemData.{ProblemData, IsProblemSound, IsProblemJob, problem_job, problem_release, problem_time}
use Rattle.tf_posed.specs.ProblemCost.{IsLowerBound}
use Rattle.tf_problem.specs.Relaxed.{IsRelaxation, window_task, load_task, rank_task, weighed_task, pair_task}
use Rattle.tf_problem.specs.Pushed.{pushed, AreReleases, AreServingDues}
use Rattle.tf_problem.specs.ProblemBounds.{pair_margin, window_value, crowd_value, one_job_value, machine_value, AreMultipliers, any_multiplier_value, numerator, is_alike, is_by_machine, is_max_goal, is_tardy_goal, is_completion_goal, is_sum_goal, horizon, AreCheapest, last_within, prices_value, start_price, rows_value, alone_cost}

-- ---- relaxation

-- a lower bound that a certificate gives of a relaxed task is one of the task
abbrev pub CertificateLaw : Type 0
CertificateLaw = (k : ProblemData) (relaxed : SchedulingTask) (more : ℤ)
    → IsRelaxation k relaxed more → IsSound relaxed → (claim : Claim) (b : ℤ)
    → bound_by claim relaxed ≡ Ok b → IsLowerBound k (b +ℤ more)

-- the minimum cost of a relaxed task is a lower bound of the task
abbrev pub BestLaw : Type 0
BestLaw = (k : ProblemData) (relaxed : SchedulingTask) (more : ℤ)
    → IsRelaxation k relaxed more → (best : Timetable) (v : ℤ) → IsBest relaxed best v
    → IsLowerBound k (v +ℤ more)

-- the tasks of classes that relax the task of a problem, with their margins
pub record RelaxationLaw (k : ProblemData) : Type 0 where
  -- `1|..|Lmax` by `1|rj,prmp|Lmax`
  pub by_window : IsTrue (is_single_env k.problem.env) → k.problem.goal ≡ goals.Lmax
      → IsRelaxation k (window_task k) (pos 0)
  -- `P|..|Cmax` by `P|prmp|Cmax`
  pub by_load : IsTrue (is_parallel_env k.problem.env) → k.problem.goal ≡ goals.Cmax
      → IsRelaxation k (load_task k) (pos 0)
  -- `P|..|sumC` by `P||sumC`
  pub by_ranks : IsTrue (is_parallel_env k.problem.env) → IsFalse k.problem.prmp
      → k.problem.goal ≡ goals.SumC → IsRelaxation k (rank_task k) (pos 0)
  -- `1|..|sumC` and `1|..|sumwC` by `1|prmp|sumwC`
  pub by_pairs : IsTrue (is_single_env k.problem.env) → k.problem.goal ≡ goals.SumC
      → IsRelaxation k (weighed_task k 0 (λ _. 1)) (pos 0)
  pub by_weighted_pairs : IsTrue (is_single_env k.problem.env) → k.problem.goal ≡ goals.SumWC
      → IsRelaxation k (weighed_task k 0 (λ j. (problem_job k j).weight)) (pos 0)
  -- `Fm|..|Cmax` by `F2|prmp|Cmax` of two of its machines
  pub by_two_machines : IsTrue (is_flow_env k.problem.env) → k.problem.goal ≡ goals.Cmax
      → (a b : ℕ) → a < b → b < k.machines
      → IsRelaxation k (pair_task k a b) (pos (pair_margin k a b))

-- ---- arcs

-- whatever bounds the task with dates that follow by its arcs bounds the task
abbrev pub PushedLaw : Type 0
PushedLaw = (k : ProblemData) → IsProblemSound k → IsTrue k.problem.prec → (r : List ℕ)
    → AreReleases k r → (d : List ℤ) → AreServingDues k d → (b : ℤ)
    → IsLowerBound (pushed k r d) b → IsLowerBound k b

-- ---- bounds of their own, whatever the conditions

-- some jobs where each has one time
abbrev pub WindowLaw : Type 0
WindowLaw = (k : ProblemData) → IsProblemSound k → IsTrue (is_alike k.problem.env)
    → IsTrue (is_max_goal k.problem.goal) → (jobs : List ℕ) → IsDistinct jobs
    → All (IsProblemJob k) jobs → 0 < length jobs → IsLowerBound k (window_value k jobs)

-- more than h jobs for each machine, where none is broken off
abbrev pub CrowdLaw : Type 0
CrowdLaw = (k : ProblemData) → IsProblemSound k → IsTrue (is_alike k.problem.env)
    → IsFalse k.problem.prmp → IsTrue (is_max_goal k.problem.goal) → (jobs : List ℕ)
    → IsDistinct jobs → All (IsProblemJob k) jobs → (h : ℕ) → h * k.machines < length jobs
    → IsLowerBound k (crowd_value k h jobs)

-- one job
abbrev pub OneJobLaw : Type 0
OneJobLaw = (k : ProblemData) → IsProblemSound k
    → IsTrue (is_alike k.problem.env || is_shop_env k.problem.env)
    → IsTrue (is_max_goal k.problem.goal) → (j : ℕ) → IsProblemJob k j
    → IsLowerBound k (one_job_value k j)

-- some jobs on one machine
abbrev pub MachineLaw : Type 0
MachineLaw = (k : ProblemData) → IsProblemSound k → IsTrue (is_by_machine k.problem.env)
    → IsTrue (is_max_goal k.problem.goal) → (a : ℕ) → a < k.machines
    → (jobs : List ℕ) → IsDistinct jobs → All (IsProblemJob k) jobs → 0 < length jobs
    → IsLowerBound k (machine_value k a jobs)

-- multipliers of jobs and arcs, in every environment and under all conditions
abbrev pub MultiplierLaw : Type 0
MultiplierLaw = (k : ProblemData) → IsProblemSound k → IsTrue (is_tardy_goal k.problem.goal)
    → (a : ℕ) → a < k.machines → (v l : List ℕ) (q : ℕ) → 1 ≤ q → AreMultipliers k v l q
    → IsLowerBound k (any_multiplier_value k a v l q)

-- prices of the rows where no job is broken off: any sum over the jobs
abbrev pub PricesLaw : Type 0
PricesLaw = (k : ProblemData) → IsProblemSound k → IsTrue (is_alike k.problem.env)
    → IsFalse k.problem.prmp → IsTrue (is_sum_goal k.problem.goal) → (q : ℕ) → 1 ≤ q
    → (prices cheapest : List ℕ) → AreCheapest k q prices cheapest
    → IsLowerBound k (prices_value k q prices cheapest)

-- prices of the rows, whether or not jobs are preempted: the sums of completion times
abbrev pub RowPricesLaw : Type 0
RowPricesLaw = (k : ProblemData) → IsProblemSound k → IsTrue (is_alike k.problem.env)
    → IsTrue (is_completion_goal k.problem.goal) → (q : ℕ) → 1 ≤ q → (prices : List ℕ)
    → IsLowerBound k (rows_value k q prices)

-- it is enough to look at the starts up to the last one that matters, and there is one
pub record CheapestLaw (k : ProblemData) : Type 0 where
  pub up_to_last : (q : ℕ) (prices cheapest : List ℕ)
      → ((j : ℕ) → IsProblemJob k j → (s : ℕ) → problem_release k j ≤ s → s ≤ last_within k prices j
      → numerator cheapest j ≤ start_price k q prices j s)
      → AreCheapest k q prices cheapest
  pub some_start : IsTrue (is_alike k.problem.env) → (prices : List ℕ) (j : ℕ) → IsProblemJob k j
      → (problem_release k j ≤ last_within k prices j)
      × (problem_release k j + problem_time k j ≤ horizon k)

-- each job by itself, in every environment and under all conditions: any sum
abbrev pub AloneLaw : Type 0
AloneLaw = (k : ProblemData) → IsProblemSound k → IsTrue (is_sum_goal k.problem.goal)
    → IsLowerBound k (pos (alone_cost k))
