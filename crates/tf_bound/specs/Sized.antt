-- What every task satisfies at run time: it is sound, and its numbers and totals are within the limits.
use Rattle.std.specs.Prelude.{◌≡◌, ℕ, ◌+◌, ◌≤◌, List, sum, length, IsTrue, IsFalse}
use Rattle.std.specs.List.{All, sum_by}
use Rattle.tf_model.specs.ClassTable.{is_single_env, is_shop_env}
use Rattle.tf_model.specs.declared.problem.Problem.{Problem}
use Rattle.tf_model.specs.Limit.{limit, most_jobs, most_machines}
use Rattle.tf_model.specs.Whole.{IsWithin}
use Rattle.tf_posed.specs.ProblemData.{ProblemData, ProblemJobData, IsProblemJob, is_covered, is_job_shop, needs_time}
use Rattle.tf_bound.specs.Route.{IsRouted}

-- the task of these parts
abbrev pub task_of : Problem → ℕ → List ProblemJobData → List (ℕ × ℕ) → ProblemData
task_of problem machines jobs arcs =
    record { problem = problem; machines = machines; jobs = jobs; arcs = arcs }

-- the time of a job on all machines together
abbrev pub work : ProblemJobData → ℕ
work x = sum x.times

-- the time of all jobs
abbrev pub all_work : ProblemData → ℕ
all_work k = sum_by work k.jobs

-- A job has one time, in a shop one for each machine, and some time in all where time is needed, and
-- in a job shop a route, of some machine. Its numbers are within the limit.
pub record IsSizedJob (p : Problem) (machines : ℕ) (x : ProblemJobData) : Type 0 where
  pub one_time : IsFalse (is_shop_env p.env) → length x.times ≡ 1
  pub shop_times : IsTrue (is_shop_env p.env) → length x.times ≡ machines
  pub routed : IsTrue (is_job_shop p.env) → IsRouted machines x.times x.route
  pub some_route : IsTrue (is_job_shop p.env) → 1 ≤ length x.route
  pub some_time : IsTrue (needs_time p) → 1 ≤ work x
  pub weight : x.weight ≤ limit
  pub release : x.release ≤ limit
  pub due : IsWithin x.due

pub record IsSized (k : ProblemData) : Type 0 where
  pub covered : IsTrue (is_covered k.problem)
  pub some_job : 1 ≤ length k.jobs
  pub few_jobs : length k.jobs ≤ most_jobs
  pub some_machine : 1 ≤ k.machines
  pub few_machines : k.machines ≤ most_machines
  pub single : IsTrue (is_single_env k.problem.env) → k.machines ≡ 1
  pub jobs : All (IsSizedJob k.problem k.machines) k.jobs
  pub arcs_in : All (λ arc. IsProblemJob k arc.0 × IsProblemJob k arc.1) k.arcs
  -- all the work, and the work after any release date
  pub total : all_work k ≤ limit
  pub horizon : All (λ x. x.release + all_work k ≤ limit) k.jobs
