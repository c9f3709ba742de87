use Rattle.std.proofs.Common.{◌≡◌, false, ℕ, ◌*◌, ◌≤◌, length, All}
use Rattle.tf_model.specs.Limit.{limit}
use Rattle.tf_problem.specs.ProblemBounds.{numerator}
use Rattle.tf_bound.specs.Faulted.{is_dear}
use Rattle.tf_bound.specs.Prices.{IsCheapestFor, IsPaidFor}
use Rattle.tf_bound.proofs.prices.cheapest_prices.Given as goal

abbrev pub invariant-loop-k : goal.invariant-loop-k
invariant-loop-k g l = record {
  len : length l.cheapest.items ≡ l.k;
  none : (j : ℕ) → 1 ≤ j → j ≤ l.k → is_dear l.task l.q l.prices j ≡ false;
  cheapest : (j : ℕ) → 1 ≤ j → j ≤ l.k
      → IsCheapestFor l.task l.q l.prices j (numerator l.cheapest.items j);
  reached : (j : ℕ) → 1 ≤ j → j ≤ l.k
      → IsPaidFor l.task l.q l.prices j (numerator l.cheapest.items j);
  small : All (λ x. x ≤ 2 * limit) l.cheapest.items;
}
