-- Which steps make a cost that does not fall, and the first fault of those that do not.
use Rattle.std.specs.Prelude.{◌≡◌, ℤ, negsuc, ◌||◌, List, [], ◌∷◌, Option, None, Some, int_lt, int_le, if◌then◌else◌}
use Rattle.std.specs.Option.{option_or}
use Rattle.tf_model.specs.Steps.{Steps}
use Rattle.tf_model.specs.InstanceData.{is_negative, is_beyond}
use Rattle.tf_model.specs.declared.cost.CostFault.{CostFault}
use Rattle.tf_model.specs.declared.cost.CostFault.TheVariants.{OutOfRange, TimesNotRising, CostFalls}

-- a step behind one at `time` with `value`: its range, then its time, then its value
abbrev pub step_fault : ℤ → ℤ → ℤ × ℤ → Option CostFault
step_fault time value step =
    if is_negative step.0 || is_beyond step.0 || is_beyond step.1 then Some OutOfRange
    else if int_le step.0 time then Some TimesNotRising
    else if int_lt step.1 value then Some CostFalls
    else None

-- the first fault of the steps behind it
abbrev pub rise_fault : ℤ → ℤ → List (ℤ × ℤ) → Option CostFault
rise_fault time value [] = None
rise_fault time value (step ∷ steps) =
    option_or (step_fault time value step) (rise_fault step.0 step.1 steps)

-- the base, which stands before time 0, and then the steps
abbrev pub steps_fault : Steps → Option CostFault
steps_fault s = if is_beyond s.base then Some OutOfRange else rise_fault (negsuc 0) s.base s.steps

-- there is none
abbrev pub IsStepCost : Steps → Type 0
IsStepCost s = steps_fault s ≡ None
