use Rattle.std.proofs.Common.{take}
use Rattle.tf_single.specs.ArcCounts.{AreCounts}
use Rattle.tf_single.proofs.arcs_into.arc_counts.Given as goal

abbrev pub invariant-loop-before : goal.invariant-loop-before
invariant-loop-before g l = record {
  successors : AreCounts l.task (λ arc. arc.0) (take l.before-index l.before-items)
      l.successors.items;
  predecessors : AreCounts l.task (λ arc. arc.1) (take l.before-index l.before-items)
      l.predecessors.items;
}
