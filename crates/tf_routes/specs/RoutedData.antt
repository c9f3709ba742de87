-- An instance with the routes of its jobs.
use Rattle.std.specs.Prelude.{◌≡◌, ℕ, ◌<◌, ◌≤◌, ◌==◌, List, length}
use Rattle.std.specs.List.{All, count_by}
use Rattle.tf_model.specs.InstanceData.{InstanceData}
use Rattle.tf_model.specs.Limit.{limit}
use Rattle.tf_routes.specs.declared.route.Step.{Step}

-- a route for each job, in the order of the jobs
pub record RoutedData : Type 0 where
  pub instance : InstanceData
  pub routes : List (List Step)

-- the steps of a route over so many machines that visits none twice
pub record AreSteps (machines : ℕ) (route : List Step) : Type 0 where
  pub once : (machine : ℕ) → count_by (λ (step : Step). step.machine == machine) route ≤ 1
  pub within : All (λ (step : Step). step.machine < machines) route
  pub short : All (λ (step : Step). step.time ≤ limit) route

-- each job has such a route
pub record HasRoutes (machines : ℕ) (r : RoutedData) : Type 0 where
  pub count : length r.routes ≡ length r.instance.jobs
  pub routes : All (AreSteps machines) r.routes
