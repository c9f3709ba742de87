use Rattle.std.proofs.Common.{◌≡◌, ℕ, ◌+◌, ◌≤◌, length, sum, take, slice_index}
use Rattle.tf_model.specs.Limit.{limit}
use Rattle.tf_bound.proofs.row_sums.sum_rows.Given as goal

abbrev pub invariant-loop-row : goal.invariant-loop-row
invariant-loop-row l = record {
  len : length l.sums ≡ length l.prices + 1;
  total : l.total ≡ sum (take l.row l.prices);
  small : l.total ≤ limit;
  at : (t : ℕ) → t ≤ l.row → slice_index l.sums t ≡ sum (take t l.prices);
}
