use Rattle.tf_single.proofs.ArcsInto.{ArePlaced}
use Rattle.tf_single.proofs.arcs_into.ArcsInto.of.Given as goal

abbrev pub invariant-loop-from : goal.invariant-loop-from
invariant-loop-from g l = ArePlaced l.task l.from-index l.ends.items l.froms.items
