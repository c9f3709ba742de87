use Rattle.std.proofs.Common.{◌≡◌, take, length}
use Rattle.tf_prepare.specs.Preparing.{times_by}
use Rattle.tf_prepare.proofs.routed.times_by.Given as goal

-- the times of the steps so far
abbrev pub invariant-loop-step : goal.invariant-loop-step
invariant-loop-step g l = record {
  count : length l.times.items ≡ l.machines;
  same : l.times.items ≡ times_by l.machines (take l.step-index l.step-items);
}
