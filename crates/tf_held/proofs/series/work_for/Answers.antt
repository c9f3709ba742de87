use Rattle.std.proofs.Common.{refl}
use Rattle.tf_held.proofs.series.work_for.Goals as goal

pub returns-in-Values-clause-work : goal.returns-in-Values-clause-work
returns-in-Values-clause-work c instance number o = (c.in-Values.is, o, c.layout_for.ensures)

pub returns-in-Bounds-clause-work : goal.returns-in-Bounds-clause-work
returns-in-Bounds-clause-work c instance number o = (c.in-Bounds.is, o)

pub returns-in-Orders-clause-work : goal.returns-in-Orders-clause-work
returns-in-Orders-clause-work c instance number o =
    (o, (c.in-Orders.field-0, c.in-Orders.is, c.text_in.ensures, refl))

pub returns-in-Ruled-clause-work : goal.returns-in-Ruled-clause-work
returns-in-Ruled-clause-work c instance number o = (o, (c.in-Ruled.is, refl))
