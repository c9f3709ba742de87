use Rattle.tf_bound.proofs.RaisedDates.{IsPassing}
use Rattle.tf_bound.proofs.along.pass.Given as goal

abbrev pub invariant-loop-before : goal.invariant-loop-before
invariant-loop-before l =
    IsPassing l.work l.arcs l.initial.dates l.before-index l.dates l.is_raised
