use Rattle.std.proofs.Common.{sym, ◌∙◌}
use Rattle.std.proofs.lemmas.Bool.{eqb-true}
use Rattle.tf_words.proofs.Lines.{line_none}
use Rattle.tf_export.proofs.Texts.{more_left, none_left}
use Rattle.tf_orders.proofs.NumberedRows.{numbered_next, numbered_none, numbered_out}
use Rattle.tf_orders.proofs.numbering.push_numbered.Goals as goal

pub loop-line-preserved : goal.loop-line-preserved
loop-line-preserved g c =
    more_left c.loop-line.out.items _ _ _ _ _
    (numbered_next _ _ _ _ _ _ c.in-Some.ensures.lines c.next_line.ensures.lines)
    c.in_ok-push_numbered_row.ensures c.loop-line.invariant

pub returns-then-is_empty : goal.returns-then-is_empty
returns-then-is_empty g c =
    none_left _ _ _
    (numbered_out _ _
    (line_none c.loop-line.left.now (eqb-true _ _ (sym c.is_empty.ensures ∙ c.if-is_empty.true))))
    c.loop-line.invariant

pub returns : goal.returns
returns g c =
    none_left _ _ _ (numbered_none _ _ c.in_default.ensures.lines) c.loop-line.invariant
