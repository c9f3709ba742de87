use Rattle.tf_single.proofs.Found.{IsFoundBy}
use Rattle.tf_single.proofs.cycle.successors.Given as goal

abbrev pub invariant-loop-before : goal.invariant-loop-before
invariant-loop-before g l = IsFoundBy l.task l.counts l.before-items l.before-index l.next.items
