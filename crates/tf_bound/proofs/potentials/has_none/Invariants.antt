use Rattle.std.proofs.Common.{◌≡◌, ◌==◌, false, take}
use Rattle.std.specs.List.{list_any}
use Rattle.tf_bound.proofs.potentials.has_none.Given as goal

abbrev pub invariant-loop-time : goal.invariant-loop-time
invariant-loop-time l = list_any (λ t. t == 0) (take l.time-index l.times) ≡ false
