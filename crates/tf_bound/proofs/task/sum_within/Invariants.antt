use Rattle.std.proofs.Common.{◌≡◌, ◌≤◌, sum, take}
use Rattle.tf_model.specs.Limit.{limit}
use Rattle.tf_bound.proofs.task.sum_within.Given as goal

abbrev pub invariant-loop-number : goal.invariant-loop-number
invariant-loop-number l = record {
  value : l.total ≡ sum (take l.number-index l.numbers);
  small : l.total ≤ limit;
}
