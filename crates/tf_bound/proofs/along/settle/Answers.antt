use Rattle.std.proofs.Common.{arith}
use Rattle.tf_bound.proofs.RaisedDates.{settle_begins, settle_more, settle_ends, settle_beyond, settled}
use Rattle.tf_bound.proofs.along.settle.Goals as goal

pub loop-init : goal.loop-init
loop-init c = settle_begins c.args.work.now c.args.arcs.now c.args.dates.now c.requires.within

pub pass-requires-clause-within : goal.pass-requires-clause-within
pass-requires-clause-within c = c.loop.invariant.within

pub returns-in-Unmoved-clause-settled : goal.returns-in-Unmoved-clause-settled
returns-in-Unmoved-clause-settled c =
    settle_ends c.args.work.now c.args.arcs.now c.args.dates.now c.loop.counter c.loop.dates
    c.pass.new.dates c.loop.invariant c.in-Unmoved.ensures.len c.in-Unmoved.ensures.within
    c.in-Unmoved.ensures.passed

pub returns-in-Beyond-clause-settled : goal.returns-in-Beyond-clause-settled
returns-in-Beyond-clause-settled c =
    settle_beyond c.args.work.now c.args.arcs.now c.args.dates.now c.loop.counter c.loop.dates
    c.pass.new.dates c.loop.invariant c.in-Beyond.ensures.len c.in-Beyond.ensures.within
    c.in-Beyond.ensures.passed

pub loop-preserved : goal.loop-preserved
loop-preserved c =
    settle_more c.args.work.now c.args.arcs.now c.args.dates.now c.loop.counter c.loop.dates
    c.pass.new.dates c.loop.invariant c.in-Raised.ensures.len c.in-Raised.ensures.within
    c.in-Raised.ensures.passed

pub returns-clause-within : goal.returns-clause-within
returns-clause-within c = c.loop.invariant.within

pub returns-clause-settled : goal.returns-clause-settled
returns-clause-settled c =
    settled c.args.work.now c.args.arcs.now c.args.dates.now c.loop.counter c.loop.dates
    (omega (arith, c.loop-test.false)) c.loop.invariant
