-- One successor of each job that has one among those that are left, the smallest.
use Rattle.std.specs.Prelude.{◌≡◌, ℕ, ◌-◌, ◌<◌, min, List, length, slice_index_or, Option, None, Some}
use Rattle.std.specs.List.{Contains}
use Rattle.tf_model.specs.SchedulingTask.{SchedulingTask, IsJob}
use Rattle.tf_single.specs.FirstCycle.{IsNextOf}
use Rattle.tf_single.specs.Progress.{of_job}

-- the list has a successor of job j
abbrev pub HasSuccessor : List (Option ℕ) → ℕ → Type 0
HasSuccessor next j = (x : ℕ) × (slice_index_or next (j - 1) None ≡ Some x)

-- what the list has for a job is preceded by it, and has a successor of its own
pub record AreSuccessors (k : SchedulingTask) (next : List (Option ℕ)) : Type 0 where
  pub len : length next ≡ length k.jobs
  pub each : (j x : ℕ) → IsJob k j → slice_index_or next (j - 1) None ≡ Some x
      → Contains k.arcs (j, x) × HasSuccessor next x

-- some arcs from the job are left
abbrev pub IsLeft : List ℕ → ℕ → Type 0
IsLeft counts j = 0 < of_job counts j

-- what the list has for job i is x
abbrev pub IsListed : SchedulingTask → List (Option ℕ) → ℕ → ℕ → Type 0
IsListed k next i x = IsJob k i × (slice_index_or next (i - 1) None ≡ Some x)

-- what the list has for a job is the smallest of its successors from which some arcs are left
abbrev pub AreSmallest : SchedulingTask → List ℕ → List (Option ℕ) → Type 0
AreSmallest k counts next = (i x : ℕ) → IsListed k next i x → IsNextOf k (IsLeft counts) i x

-- the smaller of two jobs, where there is a first
abbrev pub smaller_of : Option ℕ → ℕ → ℕ
smaller_of None j = j
smaller_of (Some i) j = min i j
