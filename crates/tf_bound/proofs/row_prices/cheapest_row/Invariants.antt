use Rattle.std.proofs.Common.{◌≡◌, ℕ, ◌*◌, ◌≤◌, ◌<◌, length, max}
use Rattle.tf_bound.specs.RowPrices.{priced_row}
use Rattle.tf_bound.proofs.row_prices.cheapest_row.Given as goal

-- the best is what some row costs, and at most what each row so far and the last one cost
abbrev pub invariant-loop-row : goal.invariant-loop-row
invariant-loop-row l = record {
  so_far : (t : ℕ) → l.release ≤ t → t < l.row
      → l.best ≤ priced_row l.prices l.slope l.time t;
  last : l.best ≤ l.slope * max l.release (length l.prices);
  reached : (t : ℕ) × (l.release ≤ t) × (t ≤ max l.release (length l.prices))
      × (l.best ≡ priced_row l.prices l.slope l.time t);
}
