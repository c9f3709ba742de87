use Rattle.std.proofs.Common.{◌≡◌, ◌*◌, ◌≤◌, sum, take}
use Rattle.tf_model.specs.Limit.{limit}
use Rattle.tf_bound.proofs.prices.total_of.Given as goal

abbrev pub invariant-loop-price : goal.invariant-loop-price
invariant-loop-price l = record {
  value : l.total ≡ sum (take l.price-index l.prices);
  small : l.total ≤ l.price-index * (2 * limit);
}
