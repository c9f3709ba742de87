-- The cycle that is named where there is no order. A walk goes among the jobs from which arcs lead
-- on without end: from the smallest, each time to the smallest successor, until it comes to a job
-- of its own. The cycle is the jobs from that one on, so it follows from the task alone.
use Rattle.std.specs.Prelude.{◌≡◌, ℕ, ◌+◌, ◌-◌, ◌≤◌, ◌<◌, Bool, List, length, drop, slice_index, IsTrue}
use Rattle.std.specs.List.{Contains}
use Rattle.tf_model.specs.SchedulingTask.{SchedulingTask, IsJob}

-- the job is one of some jobs, each of which precedes one of them
abbrev pub IsEndless : SchedulingTask → ℕ → Type 0
IsEndless k j = (p : ℕ → Bool) × IsTrue (p j)
    × ((i : ℕ) → IsTrue (p i) → (x : ℕ) × Contains k.arcs (i, x) × IsTrue (p x))

-- the job is one of those for which P holds, the smallest
pub record IsFirstOf (k : SchedulingTask) (P : ℕ → Type 0) (j : ℕ) : Type 0 where
  pub job : IsJob k j
  pub here : P j
  pub smallest : (i : ℕ) → IsJob k i → P i → j ≤ i

-- job i precedes x, the smallest of those for which P holds
pub record IsNextOf (k : SchedulingTask) (P : ℕ → Type 0) (i x : ℕ) : Type 0 where
  pub arc : Contains k.arcs (i, x)
  pub here : P x
  pub smallest : (y : ℕ) → Contains k.arcs (i, y) → P y → x ≤ y

-- The jobs are the end of a walk from `start`, each next one by R. None comes twice until the last,
-- behind which the first of the jobs would come again.
pub record IsWalkedCycle (start : ℕ) (R : ℕ → ℕ → Type 0) (jobs : List ℕ) : Type 0 where
  pub path : List ℕ
  pub again : ℕ
  pub within : again < length path
  pub first : slice_index path 0 ≡ start
  pub next : (n : ℕ) → n + 1 < length path → R (slice_index path n) (slice_index path (n + 1))
  pub close : R (slice_index path (length path - 1)) (slice_index path again)
  pub once : (m n : ℕ) → m < length path → n < length path
      → slice_index path m ≡ slice_index path n → m ≡ n
  pub is : jobs ≡ drop again path

-- the walk among the jobs for which P holds
pub record IsFirstCycle (k : SchedulingTask) (P : ℕ → Type 0) (jobs : List ℕ) : Type 0 where
  pub start : ℕ
  pub first : IsFirstOf k P start
  pub walked : IsWalkedCycle start (IsNextOf k P) jobs
