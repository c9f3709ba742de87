use Rattle.std.proofs.Common.{◌≡◌, false, ℕ, ◌≤◌}
use Rattle.tf_bound.specs.Faulted.{is_at_odds}
use Rattle.tf_bound.proofs.potentials.has_odds.Given as goal

abbrev pub invariant-loop-k : goal.invariant-loop-k
invariant-loop-k g l =
    (j : ℕ) → 1 ≤ j → j ≤ l.k → is_at_odds l.task l.numbers l.job j ≡ false
