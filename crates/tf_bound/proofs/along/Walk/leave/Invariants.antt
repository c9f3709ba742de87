use Rattle.tf_bound.specs.Along.{KeepsRaised}
use Rattle.tf_bound.proofs.along.Walk.leave.Given as goal

abbrev pub invariant-loop-place : goal.invariant-loop-place
invariant-loop-place g l = KeepsRaised l.work l.sorted l.initial.dates l.dates
