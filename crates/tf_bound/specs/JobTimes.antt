-- The processing times of a job as a list, and its route.
use Rattle.std.specs.Prelude.{ℕ, List, [], ◌∷◌}
use Rattle.tf_bound.specs.declared.job_times.JobTimes.{JobTimes}
use Rattle.tf_bound.specs.declared.job_times.JobTimes.TheVariants.{One, Each, Routed}

-- the one time, or those on the machines from the first on
abbrev pub listed : {A : Type 0} → JobTimes A → List ℕ
listed (One time) = time ∷ []
listed (Each times) = times.items
listed (Routed routed) = routed.times

-- the route, where there is one
abbrev pub route_in : {A : Type 0} → JobTimes A → List ℕ
route_in (One time) = []
route_in (Each times) = []
route_in (Routed routed) = routed.route
