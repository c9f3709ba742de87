use Rattle.std.proofs.Common.{◌≡◌, false, ℕ, ◌*◌, ◌≤◌, sum_by}
use Rattle.std.specs.List.{range_with_len}
use Rattle.tf_model.specs.Limit.{limit}
use Rattle.tf_problem.specs.MachinePrices.{cheapest_from}
use Rattle.tf_bound.specs.Faulted.{is_dear_from}
use Rattle.tf_bound.proofs.machine_prices.all_costs.Given as goal

abbrev pub invariant-loop-k : goal.invariant-loop-k
invariant-loop-k g l = record {
  none : (j : ℕ) → 1 ≤ j → j ≤ l.k → is_dear_from l.task l.machine l.q l.prices j ≡ false;
  value : l.total ≡ sum_by (cheapest_from l.task l.machine l.q l.prices) (range_with_len 1 l.k);
  small : l.total ≤ l.k * (2 * limit);
}
