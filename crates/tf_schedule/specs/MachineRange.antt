-- Which machines a job is on, by its pieces.
use Rattle.std.specs.Prelude.{ℕ, ◌-◌, ◌≤◌, max, min, List, set, slice_index_or}
use Rattle.tf_schedule.specs.declared.piece.Piece.{Piece}
use Rattle.tf_schedule.specs.declared.machine_range.MachineRange.{MachineRange}
use Rattle.tf_schedule.specs.Piece.{machine_of}
use Rattle.tf_schedule.specs.Amounts.{greatest_by, least_by}

-- the greatest machine that a range can hold
abbrev pub most_machine : ℕ
most_machine = 4294967295

-- of a job without pieces
abbrev pub no_range : MachineRange
no_range = record { lowest = most_machine; highest = 0 }

-- with the machine of one more piece
abbrev pub widened : MachineRange → Piece → MachineRange
widened r p = record {
  lowest = min (machine_of p) r.lowest;
  highest = max (machine_of p) r.highest;
}

-- the lowest and the highest machine of job j
abbrev pub range_of : List Piece → ℕ → MachineRange
range_of ps j = record {
  lowest = min (least_by machine_of ps j) most_machine;
  highest = greatest_by machine_of ps j;
}

-- the range of job j in a list for the jobs from 1 on
abbrev pub range_at : List MachineRange → ℕ → MachineRange
range_at ranges j = slice_index_or ranges (j - 1) no_range

-- the list with one more piece
abbrev pub with_machine : List MachineRange → Piece → List MachineRange
with_machine ranges p = set ranges (p.job - 1) (widened (range_at ranges p.job) p)

-- the range has one machine, or none
abbrev pub IsOne : MachineRange → Type 0
IsOne r = r.highest ≤ r.lowest
