use Rattle.tf_bound.proofs.Seen.{AreSeen}
use Rattle.tf_bound.proofs.routed_times.is_routed.Given as goal

abbrev pub invariant-loop-machine : goal.invariant-loop-machine
invariant-loop-machine g l = AreSeen l.times l.route l.machine-index l.seen.items
