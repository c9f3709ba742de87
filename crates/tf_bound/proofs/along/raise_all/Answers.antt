use Rattle.tf_bound.proofs.RaisedDates.{not_endless}
use Rattle.tf_bound.proofs.along.raise_all.Goals as goal

pub returns-then-branch-clause-settled : goal.returns-then-branch-clause-settled
returns-then-branch-clause-settled g c r along within =
    not_endless c.args.dates.now c.args.work.now c.args.arcs.now c.requires.times c.requires.among r
    along c.deref.result.now (c.in_ok-is_endless.ensures c.if-branch.true)
