-- Costs do not fall.
use Rattle.std.proofs.Common.{◌≡◌, ℕ, ℤ, pos, negsuc, ◌-ℤ◌, ◌≤◌, ◌≤ℤ◌, ◌||◌, Bool, true, false, List, [], ◌∷◌, Option, None, Some, cond, int_le, int_lt, refl, arith}
use Rattle.std.specs.List.{fold}
use Rattle.std.proofs.lemmas.Int.{ints}
use Rattle.std.specs.Option.{option_or}
use Rattle.tf_model.specs.Steps.{Steps, step_value}
use Rattle.tf_model.specs.InstanceData.{is_negative, is_beyond}
use Rattle.tf_model.specs.StepFaults.{step_fault, rise_fault, IsStepCost}
use Rattle.tf_model.specs.declared.cost.CostFault.{CostFault}
use Rattle.tf_model.specs.declared.cost.CostFault.TheVariants.{OutOfRange, TimesNotRising, CostFalls}

pub late_law : (due : ℤ) (c e : ℕ) → c ≤ e → (pos c -ℤ due) ≤ℤ (pos e -ℤ due)
late_law due c e h = omega (arith, ints)

-- neither is there where their first is not
pub none_of_two : {A : Type 0} (o later : Option A) → option_or o later ≡ None
    → (o ≡ None) × (later ≡ None)
none_of_two (Some x) later e = cc
none_of_two None later e = (refl, e)

not_below : (a b : ℤ) → int_lt a b ≡ false → b ≤ℤ a
not_below a b h = grind (arith, ints)

-- a step without a fault does not fall
step_rises : (time value : ℤ) (step : ℤ × ℤ) → step_fault time value step ≡ None → value ≤ℤ step.1
step_rises time value step e =
    by_tests (is_negative step.0 || is_beyond step.0 || is_beyond step.1) (int_le step.0 time)
    (int_lt step.1 value) refl e
  where
    by_tests : (a b c : Bool) → int_lt step.1 value ≡ c
        → cond a (Some OutOfRange) (cond b (Some TimesNotRising) (cond c (Some CostFalls) None))
        ≡ None
        → value ≤ℤ step.1
    by_tests true b c is e = cc
    by_tests false true c is e = cc
    by_tests false false true is e = cc
    by_tests false false false is e = not_below step.1 value is

abbrev pub after : ℕ → ℤ → ℤ × ℤ → ℤ
after c v step = cond (int_le step.0 (pos c)) step.1 v

both_come : (z : ℤ) (c e : ℕ) → c ≤ e → int_le z (pos c) ≡ true → int_le z (pos e) ≡ false → ⊥
both_come z c e h p q = grind (arith, ints)

-- what is no greater at c than at e stays so along steps that rise
climbs : (time value : ℤ) (steps : List (ℤ × ℤ)) (c e : ℕ) (v w : ℤ)
    → rise_fault time value steps ≡ None → c ≤ e → v ≤ℤ w → w ≤ℤ value
    → fold (after c) v steps ≤ℤ fold (after e) w steps
climbs time value [] c e v w h le vw wv = vw
climbs time value (step ∷ steps) c e v w h le vw wv =
    let parts = none_of_two (step_fault time value step) (rise_fault step.0 step.1 steps) h in
    let rises : value ≤ℤ step.1 = step_rises time value step parts.0 in
    by_tests (int_le step.0 (pos c)) (int_le step.0 (pos e)) refl refl rises
    (λ v w vw ws. climbs step.0 step.1 steps c e v w parts.1 le vw ws)
  where
    by_tests : (a b : Bool) → int_le step.0 (pos c) ≡ a → int_le step.0 (pos e) ≡ b
        → value ≤ℤ step.1
        → ((v w : ℤ) → v ≤ℤ w → w ≤ℤ step.1 → fold (after c) v steps ≤ℤ fold (after e) w steps)
        → fold (after c) (cond a step.1 v) steps ≤ℤ fold (after e) (cond b step.1 w) steps
    by_tests true true p q rises on = on step.1 step.1 (omega (arith, ints)) (omega (arith, ints))
    by_tests true false p q rises on = absurd (both_come step.0 c e le p q)
    by_tests false true p q rises on = on v step.1 (omega (arith, ints)) (omega (arith, ints))
    by_tests false false p q rises on = on v w vw (omega (arith, ints))

pub no_base_fault : (b : Bool) (rest : Option CostFault) → cond b (Some OutOfRange) rest ≡ None
    → rest ≡ None
no_base_fault true rest e = cc
no_base_fault false rest e = e

pub step_law : (s : Steps) (c e : ℕ) → IsStepCost s → c ≤ e → step_value s c ≤ℤ step_value s e
step_law s c e h le =
    climbs (negsuc 0) s.base s.steps c e s.base s.base
    (no_base_fault (is_beyond s.base) (rise_fault (negsuc 0) s.base s.steps) h) le
    (omega (arith, ints)) (omega (arith, ints))
