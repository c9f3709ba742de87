use Rattle.std.proofs.Common.{◌≡◌, take}
use Rattle.tf_prepare.specs.Preparing.{greatest_on}
use Rattle.tf_prepare.proofs.routed.greatest_on.Given as goal

-- the greatest of the steps so far
abbrev pub invariant-loop-step : goal.invariant-loop-step
invariant-loop-step g l = l.greatest ≡ greatest_on l.most (take l.step-index l.step-items)
