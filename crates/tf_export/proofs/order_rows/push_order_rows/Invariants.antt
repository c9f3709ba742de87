use Rattle.std.proofs.Common.{◌≡◌, ◌++◌, length}
use Rattle.std.specs.List.{flat_map}
use Rattle.tf_words.specs.Words.{lines}
use Rattle.tf_export.specs.OrderRows.{order_row}
use Rattle.tf_export.proofs.order_rows.push_order_rows.Given as goal

-- the rows so far are written
abbrev pub invariant-loop-rest : goal.invariant-loop-rest
invariant-loop-rest l =
    l.csv.items ++ flat_map (order_row l.is_measured) (lines l.rest)
    ≡ l.fn.csv.items ++ flat_map (order_row l.is_measured) (lines l.fn.text)

abbrev pub decreases-loop-rest : goal.decreases-loop-rest
decreases-loop-rest l = length l.rest
