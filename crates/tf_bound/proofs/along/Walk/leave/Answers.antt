use Rattle.tf_bound.proofs.RaisedDates.{keeps_none, keeps_step}
use Rattle.tf_bound.proofs.along.Walk.leave.Goals as goal

pub loop-place-init : goal.loop-place-init
loop-place-init g c =
    keeps_none c.args.work.now c.args.sorted.now c.args.dates.now c.requires.within

pub raise_date-requires-clause-within : goal.raise_date-requires-clause-within
raise_date-requires-clause-within g c = c.loop-place.invariant.within

pub loop-place-preserved : goal.loop-place-preserved
loop-place-preserved g c =
    keeps_step c.args.work.now c.args.sorted.now c.args.dates.now c.loop-place.dates
    c.raise_date.new.dates c.index-sorted-place.result c.raise_date.result c.loop-place.place
    c.loop-place-test.true c.index-sorted-place.is c.requires.arcs c.loop-place.invariant
    c.raise_date.ensures

pub returns-after-loop-place-clause-kept : goal.returns-after-loop-place-clause-kept
returns-after-loop-place-clause-kept g c = c.loop-place.invariant

pub returns-then-ne-clause-kept : goal.returns-then-ne-clause-kept
returns-then-ne-clause-kept g c = c.loop-place.invariant
