use Rattle.std.proofs.Common.{◌≡◌, ℕ, ℤ, pos, ◌+◌, ◌<◌, ◌∷◌, List, Option, None, length, drop, slice_index_or, sym, ap, ◌∙◌, add-one, arith}
use Rattle.std.proofs.Math.Seq.{drop-cons}
use Rattle.std.proofs.lemmas.Int.{ints}
use Rattle.std.specs.Option.{option_or}
use Rattle.tf_model.specs.StepFaults.{step_fault, rise_fault}
use Rattle.tf_model.specs.declared.cost.CostFault.{CostFault}
use Rattle.tf_model.proofs.cost.first_fault.Goals as goal

-- a step without a fault is passed
passed : (time value : ℤ) (i : ℕ) (steps : List (ℤ × ℤ)) (a b : ℤ) (r : Option CostFault)
    → i < length steps
    → rise_fault time value (drop i steps) ≡ r
    → step_fault time value (slice_index_or steps i (pos 0, pos 0)) ≡ None
    → a ≡ (slice_index_or steps i (pos 0, pos 0)).0 → b ≡ (slice_index_or steps i (pos 0, pos 0)).1
    → rise_fault a b (drop (i + 1) steps) ≡ r
passed time value i steps a b r h e none p q =
    let step : ℤ × ℤ = slice_index_or steps i (pos 0, pos 0) in
    let at : drop i steps ≡ step ∷ drop (i + 1) steps =
    rw add-one (drop-cons steps i (pos 0, pos 0) h) in
    ap (λ t. rise_fault t b (drop (i + 1) steps)) p
    ∙ ap (λ v. rise_fault step.0 v (drop (i + 1) steps)) q
    ∙ sym (ap (λ o. option_or o (rise_fault step.0 step.1 (drop (i + 1) steps))) none)
    ∙ sym (ap (rise_fault time value) at) ∙ e

pub loop-step-preserved : goal.loop-step-preserved
loop-step-preserved c =
    passed _ _ c.loop-step.step-index c.args.steps.now _ _ _ c.loop-step-test.true
    c.loop-step.invariant (sym c.step_fault.ensures ∙ c.in_default.is) (omega (arith, ints))
    (omega (arith, ints))
