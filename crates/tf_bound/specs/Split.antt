-- Two machines of a flow shop, and the jobs of a side by marks.
use Rattle.std.specs.Prelude.{◌≡◌, ℕ, ◌-◌, ◌<◌, Bool, false, List, length, slice_index_or, IsTrue}
use Rattle.tf_model.specs.ClassTable.{is_flow_env}
use Rattle.tf_model.specs.Bounds.{stands_in}
use Rattle.tf_posed.specs.ProblemData.{ProblemData, IsProblemJob}

-- one machine of a flow shop and a later one
pub record ArePair (k : ProblemData) (a b : ℕ) : Type 0 where
  pub flow : IsTrue (is_flow_env k.problem.env)
  pub before : a < b
  pub within : b < k.machines

-- whether a job is marked
abbrev pub marked : List Bool → ℕ → Bool
marked marks j = slice_index_or marks (j - 1) false

-- each job of the task is marked where it stands in the list
pub record AreSides (k : ProblemData) (marks : List Bool) (side : List ℕ) : Type 0 where
  pub len : length marks ≡ length k.jobs
  pub sides : (j : ℕ) → IsProblemJob k j → marked marks j ≡ stands_in side j
