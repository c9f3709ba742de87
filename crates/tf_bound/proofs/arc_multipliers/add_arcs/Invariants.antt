use Rattle.std.proofs.Common.{length}
use Rattle.tf_bound.proofs.ArcSums.{AreAdded}
use Rattle.tf_bound.proofs.arc_multipliers.add_arcs.Given as goal

abbrev pub invariant-loop-i : goal.invariant-loop-i
invariant-loop-i l = AreAdded l.is_after l.arcs l.l (length l.initial.sums) l.i l.sums
