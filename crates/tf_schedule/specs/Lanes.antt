-- Tables of when jobs work, and of which machines they are on, where that is kept.
use Rattle.std.specs.Prelude.{◌≡◌, ℕ, ◌≤◌, List, length}
use Rattle.tf_schedule.specs.declared.piece.Piece.{Piece}
use Rattle.tf_schedule.specs.declared.extent.Extent.{Extent}
use Rattle.tf_schedule.specs.declared.machine_range.MachineRange.{MachineRange}
use Rattle.tf_schedule.specs.Extent.{extent_at, extent_of, with_piece}
use Rattle.tf_schedule.specs.MachineRange.{range_at, range_of, with_machine, IsOne}

-- the extents of the jobs from 1 on, and their machines, or none
pub record LanesData : Type 0 where
  pub extents : List Extent
  pub machines : List MachineRange

-- with one more piece
abbrev pub added : LanesData → Piece → LanesData
added l p = record {
  extents = with_piece l.extents p;
  machines = with_machine l.machines p;
}

-- the first start of job j, and its last stop: the limit and 0 where it has no piece
abbrev pub start_in : LanesData → ℕ → ℕ
start_in l j = (extent_at l.extents j).start

abbrev pub stop_by : List Extent → ℕ → ℕ
stop_by extents j = (extent_at extents j).stop

abbrev pub stop_in : LanesData → ℕ → ℕ
stop_in l = stop_by l.extents

-- job j is on one machine, by the table
abbrev pub IsOnOne : LanesData → ℕ → Type 0
IsOnOne l j = IsOne (range_at l.machines j)

-- the table has the extents of the jobs 1 to n by these pieces, and the machines of those that it
-- keeps them of
pub record HasLanes (n : ℕ) (ps : List Piece) (l : LanesData) : Type 0 where
  pub len : length l.extents ≡ n
  pub extents : (j : ℕ) → 1 ≤ j → j ≤ n → extent_at l.extents j ≡ extent_of ps j
  pub machines : (j : ℕ) → 1 ≤ j → j ≤ length l.machines → range_at l.machines j ≡ range_of ps j
