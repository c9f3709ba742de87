-- The route of a job of a job shop.
use Rattle.std.specs.Prelude.{◌≢◌, ℕ, ◌≤◌, ◌<◌, List, slice_index}
use Rattle.std.specs.List.{All, AllPairs, Contains}

-- A route is of so many machines, counted from 0, has none twice, and has each on which there is
-- time.
pub record IsRouted (machines : ℕ) (times route : List ℕ) : Type 0 where
  pub of_machines : All (λ a. a < machines) route
  pub no_twice : AllPairs (λ a b. a ≢ b) route
  pub has_all : (a : ℕ) → a < machines → 1 ≤ slice_index times a → Contains route a

-- the times on all machines, and the machines in the order in which the job visits them
pub record RouteData : Type 0 where
  pub times : List ℕ
  pub route : List ℕ
