-- What every task keeps that schedules are judged by: its numbers are within the limits, a job of a
-- shop has a time on each machine, and its route and the arcs are of the task.
use Rattle.std.specs.Prelude.{◌≡◌, ℕ, ◌<◌, ◌≤◌, length, IsTrue}
use Rattle.std.specs.List.{All}
use Rattle.tf_model.specs.ClassTable.{is_shop_env}
use Rattle.tf_model.specs.Limit.{limit, most_jobs, most_machines}
use Rattle.tf_posed.specs.ProblemData.{ProblemData, IsProblemJob, problem_job, route_of}

pub record IsLimited (k : ProblemData) : Type 0 where
  pub few_jobs : length k.jobs ≤ most_jobs
  pub few_machines : k.machines ≤ most_machines
  pub times : IsTrue (is_shop_env k.problem.env) → (j : ℕ) → IsProblemJob k j
      → length (problem_job k j).times ≡ k.machines
  pub releases : (j : ℕ) → IsProblemJob k j → (problem_job k j).release ≤ limit
  pub routes : (j : ℕ) → IsProblemJob k j → All (λ a. a < k.machines) (route_of k j)
  pub arcs_in : All (λ arc. IsProblemJob k arc.0 × IsProblemJob k arc.1) k.arcs
