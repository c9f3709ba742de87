use Rattle.std.proofs.Common.{◌≡◌, ◌++◌, length}
use Rattle.std.specs.List.{flat_map}
use Rattle.tf_words.specs.Words.{words}
use Rattle.tf_export.specs.OrderRows.{value_cell}
use Rattle.tf_export.proofs.order_rows.push_values.Given as goal

-- the words so far are written
abbrev pub invariant-loop-word : goal.invariant-loop-word
invariant-loop-word l =
    l.csv.items ++ flat_map value_cell (words l.rest)
    ≡ l.fn.csv.items ++ flat_map value_cell (words l.fn.row)

abbrev pub decreases-loop-word : goal.decreases-loop-word
decreases-loop-word l = length l.rest
