-- An order of all jobs that keeps the arcs.
use Rattle.std.specs.Prelude.{◌≡◌, ◌≢◌, ℕ, ◌<◌, List, length, slice_index, IsTrue}
use Rattle.std.specs.List.{All, AllPairs}
use Rattle.std.specs.List.Sorted.{IsPermutation}
use Rattle.tf_posed.specs.ProblemData.{ProblemData, IsProblemJob, problem_jobs}

-- job a stands before job b in the order
pub record StandsBefore (order : List ℕ) (a b : ℕ) : Type 0 where
  pub x : ℕ
  pub y : ℕ
  pub lt : x < y
  pub within : y < length order
  pub first : slice_index order x ≡ a
  pub second : slice_index order y ≡ b

-- all jobs, each once, in an order that keeps the arcs
pub record IsSerialOrder (k : ProblemData) (order : List ℕ) : Type 0 where
  pub jobs : All (IsProblemJob k) order
  pub all : IsPermutation (problem_jobs k) order
  pub once : AllPairs (λ a b. a ≢ b) order
  pub keeps : IsTrue k.problem.prec → All (λ arc. StandsBefore order arc.0 arc.1) k.arcs
