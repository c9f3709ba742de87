use Rattle.std.proofs.Common.{◌≡◌, negsuc, drop}
use Rattle.tf_model.specs.StepFaults.{rise_fault}
use Rattle.tf_model.proofs.cost.first_fault.Given as goal

-- the first fault of what is left is the first of all
abbrev pub invariant-loop-step : goal.invariant-loop-step
invariant-loop-step l =
    rise_fault l.time l.value (drop l.step-index l.steps) ≡ rise_fault (negsuc 0) l.base l.steps
