-- The machines that a route has visited so far, marked.
use Rattle.std.specs.Prelude.{◌≡◌, ℕ, ◌<◌, Bool, false, List, length, slice_index_or}
use Rattle.tf_routes.specs.declared.route.Step.{Step}
use Rattle.tf_routes.specs.Routes.{visits}

-- machine m is marked exactly where one of the steps is on it
abbrev pub AreMarks : List Step → List Bool → Type 0
AreMarks steps marks = (m : ℕ) → m < length marks → slice_index_or marks m false ≡ visits m steps
