use Rattle.std.proofs.Common.{◌≡◌, false, ℕ, ◌≤◌}
use Rattle.tf_bound.specs.Faulted.{is_excessive}
use Rattle.tf_bound.proofs.potentials.first_excessive.Given as goal

abbrev pub invariant-loop-k : goal.invariant-loop-k
invariant-loop-k g l = (j : ℕ) → 1 ≤ j → j ≤ l.k → is_excessive l.task l.numbers j ≡ false
