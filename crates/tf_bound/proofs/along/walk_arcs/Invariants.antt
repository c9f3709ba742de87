use Rattle.tf_bound.specs.Along.{KeepsRaised}
use Rattle.tf_bound.proofs.along.walk_arcs.Given as goal

abbrev pub invariant-loop-next : goal.invariant-loop-next
invariant-loop-next g l = KeepsRaised l.work l.sorted.items l.initial.dates l.dates
