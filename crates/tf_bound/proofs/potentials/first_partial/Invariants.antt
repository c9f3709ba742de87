use Rattle.std.proofs.Common.{◌≡◌, false, ℕ, ◌≤◌}
use Rattle.tf_bound.specs.Faulted.{is_partial}
use Rattle.tf_bound.proofs.potentials.first_partial.Given as goal

abbrev pub invariant-loop-k : goal.invariant-loop-k
invariant-loop-k g l = (j : ℕ) → 1 ≤ j → j ≤ l.k → is_partial l.task j ≡ false
