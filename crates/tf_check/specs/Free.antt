-- Which jobs of a set have no successor in it, by marks, and the cheapest of them.
use Rattle.std.specs.Prelude.{◌≡◌, ℕ, ◌-◌, ℤ, Bool, false, not, List, [], ◌∷◌, length, slice_index_or, Option, None, Some}
use Rattle.std.specs.Int.{int_min}
use Rattle.tf_model.specs.SchedulingTask.{SchedulingTask, IsJob}
use Rattle.tf_model.specs.Bounds.{stands_in}
use Rattle.tf_check.specs.Bound.{is_free, least}

-- job by job, whether it stands in the list
pub record AreMarks (k : SchedulingTask) (marks : List Bool) (jobs : List ℕ) : Type 0 where
  pub len : length marks ≡ length k.jobs
  pub marked : (c : ℕ) → IsJob k c → slice_index_or marks (c - 1) false ≡ stands_in jobs c

-- job by job, whether it has a successor in the list
pub record AreFollowed (k : SchedulingTask) (marks : List Bool) (jobs : List ℕ) : Type 0 where
  pub len : length marks ≡ length k.jobs
  pub marked : (c : ℕ) → IsJob k c → slice_index_or marks (c - 1) false ≡ not (is_free k jobs c)

-- the least of f over the list, where it is not empty
abbrev pub cheapest : (ℕ → ℤ) → List ℕ → Option ℤ
cheapest f [] = None
cheapest f (j ∷ jobs) = Some (least f (j ∷ jobs))

-- the lesser of a value, where there is one, and another
abbrev pub least_with : Option ℤ → ℤ → ℤ
least_with None value = value
least_with (Some least) value = int_min least value
