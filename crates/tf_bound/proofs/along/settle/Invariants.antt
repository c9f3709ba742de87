use Rattle.tf_bound.proofs.RaisedDates.{IsSettling}
use Rattle.tf_bound.proofs.along.settle.Given as goal

abbrev pub invariant-loop : goal.invariant-loop
invariant-loop l = IsSettling l.work l.arcs l.initial.dates l.counter l.dates
