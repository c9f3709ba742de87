-- The chart of a schedule: a line for each machine, on which each column shows the job that is
-- there at one time.
use Rattle.std.specs.Prelude.{ℕ, ◌*◌, ◌/◌, ◌%◌, ◌==◌, min, nat_le, List, ◌++◌, map, codes, slice_index, if◌then◌else◌}
use Rattle.std.specs.List.{range_with_len, flat_map}
use Rattle.std.specs.Fmt.{decimal}
use Rattle.tf_schedule.specs.declared.piece.Piece.{Piece}
use Rattle.tf_schedule.specs.Drawing.{job_at, greatest_stop}

-- the most columns of a chart
abbrev pub most_columns : ℕ
most_columns = 1000

-- the time that column c, counted from 0, shows: its own where there is a column for each time
-- step, else times spread evenly
abbrev pub column_time : ℕ → ℕ → ℕ → ℕ
column_time length columns c = if nat_le length columns then c else c * length / columns

-- '.' where no job is, which is job 0, else the job's number by its rest modulo 36, as a digit or a
-- letter
abbrev pub cell_sign : ℕ → ℕ
cell_sign j =
    if j == 0 then 46 else slice_index (codes "0123456789abcdefghijklmnopqrstuvwxyz") (j % 36)

-- the columns of a machine
abbrev pub cell_signs : List Piece → ℕ → ℕ → List ℕ
cell_signs ps columns machine =
    map (λ c. cell_sign (job_at ps machine (column_time (greatest_stop ps) columns c)))
    (range_with_len 0 (min (greatest_stop ps) columns))

abbrev pub machine_line : List Piece → ℕ → ℕ → List ℕ
machine_line ps columns machine =
    codes "machine " ++ decimal machine ++ codes " |" ++ cell_signs ps columns machine
    ++ codes "|\n"

abbrev pub length_line : List Piece → List ℕ
length_line ps = codes "length " ++ decimal (greatest_stop ps) ++ codes "\n"

-- the chart of the machines 1 to `machines`, in so many columns at most
unfoldable pub chart_text : List Piece → ℕ → ℕ → List ℕ
chart_text ps machines columns =
    length_line ps ++ flat_map (machine_line ps columns) (range_with_len 1 machines)
