-- The task of any problem as it is written, whether or not it is of a class. The record is called
-- `ProblemData`, since `ProblemTask` is the type at run time of which it is the value.
use Rattle.std.specs.Prelude.{◌≡◌, ◌≢◌, ℕ, ◌-◌, ◌≤◌, ◌<◌, Bool, true, false, not, ◌&&◌, ◌||◌, ℤ, pos, List, [], length, slice_index, slice_index_or, if◌then◌else◌, IsTrue, IsFalse}
use Rattle.std.specs.List.{All, AllPairs, Contains, sum_by, range_with_len}
use Rattle.tf_model.specs.declared.problem.Env.{Env}
use Rattle.tf_model.specs.declared.problem.Env.TheVariants.{Uniform, Unrelated, Flow, JobShop}
use Rattle.tf_model.specs.declared.problem.Goal.{Goal}
use Rattle.tf_model.specs.declared.problem.Goal.TheVariants as goals
use Rattle.tf_model.specs.declared.problem.Problem.{Problem}
use Rattle.tf_model.specs.ClassTable.{is_shop_env, is_single_env}

-- A job. Its times are one, or in a shop one for each machine, from the first on. Its route is
-- looked at in a job shop alone: the machines that it visits, counted from 0, in their order.
pub record ProblemJobData : Type 0 where
  pub times : List ℕ
  pub route : List ℕ
  pub weight : ℕ
  pub release : ℕ
  pub due : ℤ

abbrev pub no_problem_job : ProblemJobData
no_problem_job = record { times = []; route = []; weight = 1; release = 0; due = pos 0 }

-- A task: the problem, whose conditions say what is asked; the machines; the jobs, numbered from 1;
-- and the arcs, of which the first job is over before the second begins. What the problem's
-- conditions and objective do not name is not looked at, whatever it is.
pub record ProblemData : Type 0 where
  pub problem : Problem
  pub machines : ℕ
  pub jobs : List ProblemJobData
  pub arcs : List (ℕ × ℕ)

-- the numbers of the jobs, 1 to n
abbrev pub problem_jobs : ProblemData → List ℕ
problem_jobs k = range_with_len 1 (length k.jobs)

abbrev pub IsProblemJob : ProblemData → ℕ → Type 0
IsProblemJob k j = (1 ≤ j) × (j ≤ length k.jobs)

abbrev pub problem_job : ProblemData → ℕ → ProblemJobData
problem_job k j = slice_index_or k.jobs (j - 1) no_problem_job

-- the time of a job outside shops
abbrev pub problem_time : ProblemData → ℕ → ℕ
problem_time k j = slice_index (problem_job k j).times 0

-- the time of a job on a machine of a shop, counted from 0
abbrev pub problem_time_on : ProblemData → ℕ → ℕ → ℕ
problem_time_on k j i = slice_index (problem_job k j).times i

-- the time of a job on n machines of a shop, from machine a on
abbrev pub time_over : ProblemData → ℕ → ℕ → ℕ → ℕ
time_over k j a n = sum_by (problem_time_on k j) (range_with_len a n)

abbrev pub route_by : Env → ProblemData → ℕ → List ℕ
route_by Flow k j = range_with_len 0 k.machines
route_by JobShop k j = (problem_job k j).route
route_by _ k j = []

-- The machines in the order in which a job has to visit them: in a flow shop all, in a job shop its
-- route, and elsewhere none, since it may visit them in any order.
abbrev pub route_of : ProblemData → ℕ → List ℕ
route_of k j = route_by k.problem.env k j

-- the release date of a job, 0 where the problem has none
abbrev pub problem_release : ProblemData → ℕ → ℕ
problem_release k j = if k.problem.release then (problem_job k j).release else 0

abbrev pub weight_by : Goal → ProblemData → ℕ → ℕ
weight_by goals.SumWC k j = (problem_job k j).weight
weight_by goals.SumWT k j = (problem_job k j).weight
weight_by goals.SumWU k j = (problem_job k j).weight
weight_by _ k j = 1

-- the weight of a job, 1 where the objective has none
abbrev pub problem_weight : ProblemData → ℕ → ℕ
problem_weight k j = weight_by k.problem.goal k j

abbrev pub due_by : Goal → ProblemData → ℕ → ℤ
due_by goals.Lmax k j = (problem_job k j).due
due_by goals.SumT k j = (problem_job k j).due
due_by goals.SumWT k j = (problem_job k j).due
due_by goals.SumU k j = (problem_job k j).due
due_by goals.SumWU k j = (problem_job k j).due
due_by _ k j = pos 0

-- the due date of a job, 0 where the objective has none
abbrev pub problem_due : ProblemData → ℕ → ℤ
problem_due k j = due_by k.problem.goal k j

abbrev pub is_job_shop : Env → Bool
is_job_shop JobShop = true
is_job_shop _ = false

-- a route is of machines of the task, has none twice, and has each on which the job has time
pub record IsRoute (k : ProblemData) (j : ℕ) (route : List ℕ) : Type 0 where
  pub of_machines : All (λ a. a < k.machines) route
  pub no_twice : AllPairs (λ a b. a ≢ b) route
  pub has_all : (a : ℕ) → a < k.machines → 1 ≤ problem_time_on k j a → Contains route a

abbrev pub is_covered_env : Env → Bool
is_covered_env Uniform = false
is_covered_env Unrelated = false
is_covered_env _ = true

abbrev pub is_covered_goal : Goal → Bool
is_covered_goal goals.Hmax = false
is_covered_goal _ = true

-- The problems that these definitions cover: not those of machines of different speeds, of jobs
-- that block a machine or come back to one, and of cost functions.
abbrev pub is_covered : Problem → Bool
is_covered p = is_covered_env p.env && is_covered_goal p.goal && not (p.block || p.rcrc)

-- Whether each job has to take some time: outside shops, and wherever a job waits for its release
-- date or for another job. Else a job of a shop may take none, and is then over from the first.
abbrev pub needs_time : Problem → Bool
needs_time p = not (is_shop_env p.env) || (p.release || p.prec)

-- What the task of a problem satisfies: it has a job and a machine, on one machine exactly one, as
-- many times of a job as are asked, in all at least 1 where time is needed, routes in a job shop,
-- and arcs between jobs.
pub record IsProblemSound (k : ProblemData) : Type 0 where
  pub covered : IsTrue (is_covered k.problem)
  pub some_job : 1 ≤ length k.jobs
  pub some_machine : 1 ≤ k.machines
  pub single : IsTrue (is_single_env k.problem.env) → k.machines ≡ 1
  pub one_time : IsFalse (is_shop_env k.problem.env) → (j : ℕ) → IsProblemJob k j
      → (length (problem_job k j).times ≡ 1) × (1 ≤ problem_time k j)
  pub shop_times : IsTrue (is_shop_env k.problem.env) → (j : ℕ) → IsProblemJob k j
      → (length (problem_job k j).times ≡ k.machines)
      × (IsTrue (needs_time k.problem) → 1 ≤ time_over k j 0 k.machines)
  pub routes : IsTrue (is_job_shop k.problem.env) → (j : ℕ) → IsProblemJob k j
      → IsRoute k j (problem_job k j).route
  pub arcs_in : All (λ arc. IsProblemJob k arc.0 × IsProblemJob k arc.1) k.arcs
