-- A timetable is a list of rows. Row t, counted from 0, is what happens from time t to t + 1.
-- A row is a list of cells, one for each machine. A cell is the number of a job, from 1, or 0 where
-- the machine is empty.
-- A row past the end is empty, and so is a cell past the end of a row.
use Rattle.std.specs.Prelude.{ℕ, ◌+◌, List, [], ◌∷◌, ◌==◌, ◌||◌, Bool, nat_lt, if◌then◌else◌, slice_index, slice_index_or}
use Rattle.std.specs.List.{sum_by, count_by}

abbrev pub Row : Type 0
Row = List ℕ

abbrev pub Timetable : Type 0
Timetable = List Row

-- the cell of a machine, counted from 0, in row t
abbrev pub cell : Timetable → ℕ → ℕ → ℕ
cell rows t i = slice_index (slice_index_or rows t []) i

-- in how many cells of the row the job stands
abbrev pub cells_of : ℕ → Row → ℕ
cells_of j row = count_by (λ c. c == j) row

-- whether the row has the job in some cell
abbrev pub has_job : ℕ → Row → Bool
has_job j row = nat_lt 0 (cells_of j row)

-- the number of rows in which machine i works on job j
abbrev pub units : Timetable → ℕ → ℕ → ℕ
units rows j i = count_by (λ row. slice_index row i == j) rows

-- the same over all machines: the number of cells in which the job stands
abbrev pub all_units : Timetable → ℕ → ℕ
all_units rows j = sum_by (cells_of j) rows

-- 1 plus the number of the last row that has the job, or 0 where no row has it
abbrev pub completion : Timetable → ℕ → ℕ
completion [] j = 0
completion (row ∷ rows) j =
    if has_job j row || nat_lt 0 (completion rows j) then completion rows j + 1 else 0
