-- An instance with the processing times of its jobs.
use Rattle.std.specs.Prelude.{ℕ, List, Option, None, Some}
use Rattle.std.specs.Option.{ForSome}
use Rattle.tf_model.specs.Limit.{most_machines}
use Rattle.tf_model.specs.InstanceData.{InstanceData}
use Rattle.tf_routes.specs.declared.route.Step.{Step}
use Rattle.tf_routes.specs.RoutedData.{RoutedData, HasRoutes}

-- The times are those of the jobs themselves, one or two each; or for a shop on any number of
-- machines there is a list for each machine, of the times of all jobs on it; or for a job shop a
-- route for each job.
pub record TimedData : Type 0 where
  pub instance : InstanceData
  pub by_machine : Option (List (List ℕ))
  pub routes : Option (List (List Step))

-- with the times of the jobs themselves
abbrev pub self_timed : InstanceData → TimedData
self_timed i = record { instance = i; by_machine = None; routes = None }

-- with the routes of the jobs
abbrev pub with_routes : RoutedData → TimedData
with_routes r = record { instance = r.instance; by_machine = None; routes = Some r.routes }

-- where the jobs have routes, each has one, on which it visits no machine twice, nor one beyond the
-- greatest
abbrev pub HaveRoutes : InstanceData → Option (List (List Step)) → Type 0
HaveRoutes i routes =
    ForSome routes (λ all. HasRoutes most_machines (record { instance = i; routes = all }))
