use Rattle.std.proofs.Common.{◌≡◌, ◌||◌, false, ℕ, ◌≤◌}
use Rattle.tf_bound.specs.Faulted.{is_wide, owed_due, owed_to}
use Rattle.tf_bound.proofs.multipliers.owed.Given as goal

abbrev pub invariant-loop-k : goal.invariant-loop-k
invariant-loop-k g l = record {
  sum : l.sum ≡ owed_to l.task l.v l.k;
  narrow : (j : ℕ) → 1 ≤ j → j ≤ l.k
      → (is_wide (owed_due l.task l.v j) || is_wide (owed_to l.task l.v j)) ≡ false;
}
