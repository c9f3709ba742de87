use Rattle.std.proofs.Common.{◌≤◌, All, take}
use Rattle.tf_bound.proofs.task.are_in.Given as goal

abbrev pub invariant-loop-before : goal.invariant-loop-before
invariant-loop-before l =
    All (λ arc. ((1 ≤ arc.0) × (arc.0 ≤ l.jobs)) × ((1 ≤ arc.1) × (arc.1 ≤ l.jobs)))
    (take l.before-index l.arcs)
