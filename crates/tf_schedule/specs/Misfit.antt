-- Why pieces do not fit a task: the first misfit, told in the rows of the timetable that the pieces
-- draw.
use Rattle.std.specs.Prelude.{◌≡◌, ℕ, pos, ◌≤ℤ◌, ◌<◌, ◌≤◌, ◌⊎◌, List, [], length, take, slice_get, slice_index_or, Some, IsTrue, IsFalse}
use Rattle.std.specs.List.{All}
use Rattle.tf_model.specs.Timetable.{Timetable, cells_of}
use Rattle.tf_model.specs.SchedulingTask.{SchedulingTask, IsJob}
use Rattle.tf_model.specs.ClassTable.{is_flow, may_break}
pub use Rattle.tf_model.specs.Feasible.{EachJob, IsOnce, HasAmount, IsWhole, IsReleased, IsKept, IsInFlow}
use Rattle.tf_schedule.specs.declared.piece.Piece.{Piece}
use Rattle.tf_schedule.specs.declared.fit.Misfit.{Misfit}
use Rattle.tf_schedule.specs.declared.fit.Misfit.TheVariants.{Stranger, JobTwice, WrongAmount, Broken, TooEarly, OutOfOrder, OutOfMemory}
use Rattle.tf_schedule.specs.Piece.{as_time}
use Rattle.tf_schedule.specs.Drawing.{drawing, IsOnMachine}

-- ---- the first of which a condition does not hold

-- x is the first of the list of which P does not hold
pub record IsFirstNot {X : Type 0} (P : X → Type 0) (xs : List X) (x : X) : Type 0 where
  pub place : ℕ
  pub before : All P (take place xs)
  pub here : slice_get xs place ≡ Some x
  pub fails : ¬ (P x)

-- job j is the smallest of the jobs 1 to n of which P does not hold
pub record IsSmallestNot (n : ℕ) (P : ℕ → Type 0) (j : ℕ) : Type 0 where
  pub job : (1 ≤ j) × (j ≤ n)
  pub fails : ¬ (P j)
  pub smaller : (h : ℕ) → 1 ≤ h → h < j → P h

-- ---- what is asked of the pieces

-- the piece names a job and a machine of the task
abbrev pub IsKnown : SchedulingTask → Piece → Type 0
IsKnown k p = IsJob k p.job × IsOnMachine k.machines p

-- ---- the order in which they are judged

abbrev pub AllOnce : SchedulingTask → Timetable → Type 0
AllOnce k rows = EachJob (length k.jobs) (IsOnce rows)

abbrev pub AllFull : SchedulingTask → Timetable → Type 0
AllFull k rows = AllOnce k rows × EachJob (length k.jobs) (HasAmount k rows)

abbrev pub AllWhole : SchedulingTask → Timetable → Type 0
AllWhole k rows = AllFull k rows
    × (IsFalse (may_break k.class) → EachJob (length k.jobs) (IsWhole k rows))

abbrev pub AllReleased : SchedulingTask → Timetable → Type 0
AllReleased k rows = AllWhole k rows × EachJob (length k.jobs) (IsReleased k rows)

-- row t has job j in two cells, and no row a smaller job, nor an earlier row this one
pub record IsFirstTwice (rows : Timetable) (j t : ℕ) : Type 0 where
  pub job : 1 ≤ j
  pub here : 2 ≤ cells_of j (slice_index_or rows t [])
  pub smaller_job : (h : ℕ) → 1 ≤ h → h < j → IsOnce rows h
  pub earlier : (u : ℕ) → u < t → cells_of j (slice_index_or rows u []) ≤ 1

-- what the pieces break first, and how: each condition is judged over all jobs before the next
abbrev pub HasFirstMisfit : SchedulingTask → List Piece → Misfit → Type 0
HasFirstMisfit k ps (Stranger j i) = (p : Piece) × (p.job ≡ j) × (p.machine ≡ i)
    × IsFirstNot (IsKnown k) ps p
HasFirstMisfit k ps (JobTwice j t) = All (IsKnown k) ps × (pos 0 ≤ℤ t)
    × IsFirstTwice (drawing k.machines ps) j (as_time t)
HasFirstMisfit k ps (WrongAmount j) =
    All (IsKnown k) ps × AllOnce k (drawing k.machines ps)
    × IsSmallestNot (length k.jobs) (HasAmount k (drawing k.machines ps)) j
HasFirstMisfit k ps (Broken j) =
    All (IsKnown k) ps × AllFull k (drawing k.machines ps) × IsFalse (may_break k.class)
    × IsSmallestNot (length k.jobs) (IsWhole k (drawing k.machines ps)) j
HasFirstMisfit k ps (TooEarly j) =
    All (IsKnown k) ps × AllWhole k (drawing k.machines ps)
    × IsSmallestNot (length k.jobs) (IsReleased k (drawing k.machines ps)) j
HasFirstMisfit k ps (OutOfOrder a b) =
    All (IsKnown k) ps × AllReleased k (drawing k.machines ps)
    × (IsFirstNot (IsKept (drawing k.machines ps)) k.arcs (a, b)
    ⊎ ((a ≡ b) × IsTrue (is_flow k.class)
    × IsSmallestNot (length k.jobs) (IsInFlow (drawing k.machines ps)) a))
HasFirstMisfit k ps OutOfMemory = Unit {0}
