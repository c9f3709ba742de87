use Rattle.std.proofs.Common.{◌≡◌, take}
use Rattle.tf_prepare.specs.Preparing.{machines_of}
use Rattle.tf_prepare.proofs.routed.machines_of.Given as goal

-- those of the steps so far
abbrev pub invariant-loop-step : goal.invariant-loop-step
invariant-loop-step g l = l.machines.items ≡ machines_of (take l.step-index l.steps)
