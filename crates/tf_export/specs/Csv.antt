-- Tables of values with commas between them (CSV), for spreadsheets.
use Rattle.std.specs.Prelude.{ℕ, List, [], ◌∷◌, ◌++◌, codes}
use Rattle.std.specs.List.{flat_map, join_with_byte}
use Rattle.tf_words.specs.Words.{words}
use Rattle.tf_export.specs.Members.{rows}
use Rattle.tf_export.specs.declared.csv.Table.{Table}
use Rattle.tf_export.specs.declared.csv.Table.TheVariants.{Pieces, Outcomes}

-- a line of values
abbrev pub csv_line : List (List ℕ) → List ℕ
csv_line row = join_with_byte 44 row ++ 10 ∷ []

-- the names of the columns, by which table it is, and the key of its lines
abbrev pub column_names : Table → List ℕ
column_names Pieces = codes "job machine start stop"
column_names Outcomes = codes "job start completion cost"

abbrev pub row_key : Table → List ℕ
row_key Pieces = codes "piece"
row_key Outcomes = codes "job"

-- a heading and the rows
unfoldable pub csv_of : Table → List ℕ → List ℕ
csv_of table text =
    csv_line (words (column_names table))
    ++ flat_map csv_line (rows (row_key table) (column_names table) text)
