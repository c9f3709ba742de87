use Rattle.std.proofs.Common.{◌≡◌, map, take}
use Rattle.tf_bound.proofs.pushed.reversed.Given as goal

abbrev pub invariant-loop-before : goal.invariant-loop-before
invariant-loop-before g l =
    l.back.items ≡ map (λ arc. (arc.1, arc.0)) (take l.before-index l.arcs)
