use Rattle.std.proofs.Common.{ap}
use Rattle.std.specs.List.{flat_map}
use Rattle.tf_export.specs.OrderRows.{value_cell}
use Rattle.tf_export.proofs.Texts.{more_left, none_left}
use Rattle.tf_export.proofs.order_rows.push_values.Goals as goal

pub loop-word-preserved : goal.loop-word-preserved
loop-word-preserved c =
    more_left c.loop-word.csv.items _ _ (value_cell c.in-Some.word.now) _ _
    (ap (flat_map value_cell) c.in-Some.ensures.words)
    c.in_ok-push_value.ensures c.loop-word.invariant

pub returns : goal.returns
returns c =
    none_left _ _ _ (ap (flat_map value_cell) c.in_default.ensures.words) c.loop-word.invariant
