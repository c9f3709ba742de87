use Rattle.std.proofs.Common.{◌≡◌, ◌++◌, length}
use Rattle.std.specs.List.{flat_map}
use Rattle.tf_export.specs.Csv.{csv_line}
use Rattle.tf_export.specs.Members.{rows}
use Rattle.tf_export.proofs.csv.push_rows.Given as goal

-- the rows so far are written
abbrev pub invariant-loop-rest : goal.invariant-loop-rest
invariant-loop-rest l =
    l.csv.items ++ flat_map csv_line (rows l.fn.key l.fn.names l.rest)
    ≡ l.fn.csv.items ++ flat_map csv_line (rows l.fn.key l.fn.names l.fn.text)

abbrev pub decreases-loop-rest : goal.decreases-loop-rest
decreases-loop-rest l = length l.rest
