use Rattle.tf_orders.proofs.Rows.{rows_more, rows_end}
use Rattle.tf_orders.proofs.rating.rows_of.Goals as goal

pub loop-line-preserved : goal.loop-line-preserved
loop-line-preserved g c =
    let (row, is, same) = c.in_ok-push_line.ensures in
    rows_more _ _ _ _ _ _ c.loop-line.invariant _ _ c.in-Some.ensures.lines row _ is same

pub returns : goal.returns
returns g c = rows_end _ _ _ _ _ _ c.loop-line.invariant c.in_default.ensures.lines
