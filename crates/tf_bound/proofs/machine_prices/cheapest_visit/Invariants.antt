use Rattle.std.proofs.Common.{◌≡◌, ℕ, ◌*◌, ◌≤◌, ◌<◌, length, max}
use Rattle.tf_model.specs.Limit.{limit}
use Rattle.tf_bound.specs.Visits.{visit_price}
use Rattle.tf_bound.proofs.machine_prices.cheapest_visit.Given as goal

-- the best is what some start costs, and at most what each start so far and the last one cost
abbrev pub invariant-loop-start : goal.invariant-loop-start
invariant-loop-start l = record {
  so_far : (s : ℕ) → l.visit.head ≤ s → s < l.start
      → l.best ≤ visit_price l.prices l.visit.time l.visit.tail l.visit.earliest l.visit.by_unit
      l.visit.slope l.visit.due s;
  last : l.best ≤ visit_price l.prices l.visit.time l.visit.tail l.visit.earliest l.visit.by_unit
      l.visit.slope l.visit.due (max l.visit.head (length l.prices));
  reached : (t : ℕ) × (l.visit.head ≤ t) × (t ≤ max l.visit.head (length l.prices))
      × (l.best ≡ visit_price l.prices l.visit.time l.visit.tail l.visit.earliest l.visit.by_unit
      l.visit.slope l.visit.due t);
  small : l.best ≤ 2 * limit;
}
