use Rattle.std.proofs.Common.{ap, sym, ◌∙◌}
use Rattle.std.specs.List.{flat_map}
use Rattle.std.proofs.lemmas.Bool.{eqb-true}
use Rattle.tf_export.specs.OrderRows.{order_row}
use Rattle.tf_words.proofs.Lines.{line_none}
use Rattle.tf_export.proofs.Texts.{lines_give, more_left, none_left}
use Rattle.tf_export.proofs.order_rows.push_order_rows.Goals as goal

pub loop-rest-preserved : goal.loop-rest-preserved
loop-rest-preserved c =
    more_left c.loop-rest.csv.items _ _ _ _ _
    (lines_give (order_row c.args.is_measured) c.loop-rest.rest.now _ _ c.next_line.ensures.lines)
    c.in_ok-push_order_row.ensures c.loop-rest.invariant

pub returns : goal.returns
returns c =
    none_left _ _ _
    (ap (flat_map (order_row c.args.is_measured))
    (line_none c.loop-rest.rest.now (eqb-true _ _ (sym c.is_empty.ensures ∙ c.loop-rest-test.false))))
    c.loop-rest.invariant
