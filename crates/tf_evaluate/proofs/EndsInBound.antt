-- The steps of a certificate's arithmetic end in its bound.
use Rattle.std.proofs.Common.{◌≡◌, ℕ, ◌+◌, ℤ, pos, Bool, true, false, cond, List, [], ◌∷◌, ◌++◌, map, Some, None, Option, Ok, refl, sym, ap, ◌∙◌, sum_by, unsigned_abs, arith}
use Rattle.std.proofs.lemmas.List.{map-append}
use Rattle.tf_model.specs.SchedulingTask.{SchedulingTask, time_on}
use Rattle.tf_model.specs.Sound.{IsSound}
use Rattle.tf_model.specs.Bounds.{split_value}
use Rattle.tf_model.specs.ClassTable.{is_shop}
use Rattle.tf_check.specs.Bound.{bound_by, list_fault}
use Rattle.tf_check.specs.Claim.{Claim, ByPairs, ByLastOf, ByWindow, BySplit, ByLoad, ByMachine, ByOneJob, ByRanks}
use Rattle.tf_check.specs.Laws.{list_fault_says, load_says, pairs_says, machine_says, one_job_says, last_of_says, window_says, ranks_says, split_says}
use Rattle.tf_evaluate.specs.declared.step.Terms.{Terms}
use Rattle.tf_evaluate.specs.declared.step.Terms.TheVariants.{ShopTimes, JobTime}
use Rattle.tf_evaluate.specs.declared.step.Step.{Step}
use Rattle.tf_evaluate.specs.Arithmetic.{value_of, step_of, first_terms, last_terms, arithmetic, others_work, last_result}
use Rattle.tf_evaluate.proofs.SumParts.{ranks_parts, split_parts}

-- the sides of a split and delta make its value
pub split_is : (k : SchedulingTask) (side : List ℕ) (delta : ℕ) → list_fault k [] side ≡ None
    → sum_by (λ j. time_on k j 0) side + others_work k side + delta ≡ split_value k side delta
split_is k side delta none =
    let says = list_fault_says k [] side none in
    omega (arith, split_parts k side (λ c. (says.1 c).1) says.0)

job_value : (shop : Bool) (j first second : ℕ)
    → value_of (cond shop (ShopTimes j first second) (JobTime j (first + second)))
    ≡ pos (first + second)
job_value true j first second = refl
job_value false j first second = refl

-- the terms of the last step come to the bound
pub last_is_bound : (k : SchedulingTask) (claim : Claim) (b : ℤ) → IsSound k
    → bound_by claim k ≡ Ok b → value_of (last_terms k claim) ≡ b
last_is_bound k ByPairs b sound is = (pairs_says k b is).1
last_is_bound k (ByLastOf jobs) b sound is = (last_of_says k jobs b is).3
last_is_bound k (ByWindow jobs) b sound is = (window_says k jobs b is).3
last_is_bound k (BySplit side delta first) b sound is =
    let says = split_says k side delta first b is in
    ap pos (split_is k side (unsigned_abs delta) says.1) ∙ says.4
last_is_bound k ByLoad b sound is = (load_says k b is).1
last_is_bound k (ByMachine machine) b sound is = (machine_says k machine b is).3
last_is_bound k (ByOneJob j) b sound is =
    job_value (is_shop k.class) j (time_on k j 0) (time_on k j 1) ∙ (one_job_says k j b is).2
last_is_bound k (ByRanks jobs) b sound is =
    ap pos (sym (ranks_parts k jobs sound.some_machine)) ∙ (ranks_says k jobs b is).3

-- the first steps, and the last one behind them
pub steps_pushed : (k : SchedulingTask) (claim : Claim) (before after : List Step) (last : Step)
    → before ≡ map step_of (first_terms k claim) → last.terms ≡ last_terms k claim
    → last.result ≡ value_of (last_terms k claim) → after ≡ before ++ last ∷ []
    → after ≡ arithmetic k claim
steps_pushed k claim before after last first is value pushed =
    let first_steps : List Step = map step_of (first_terms k claim) in
    let same : last ≡ step_of (last_terms k claim) =
    ap (λ (terms : Terms). let s : Step = record { terms = terms; result = last.result } in s) is
    ∙ ap (λ (z : ℤ). let s : Step = record { terms = last_terms k claim; result = z } in s) value in
    pushed ∙ ap (λ (steps : List Step). steps ++ last ∷ []) first
    ∙ ap (λ (step : Step). first_steps ++ step ∷ []) same
    ∙ sym (map-append step_of (first_terms k claim) (last_terms k claim ∷ []))

last_result_of : (before : Option ℤ) (steps : List Terms) (terms : Terms)
    → last_result before (map step_of (steps ++ terms ∷ [])) ≡ Some (value_of terms)
last_result_of before [] terms = refl
last_result_of before (step ∷ steps) terms =
    last_result_of (Some (value_of step)) steps terms

-- the last step's result is the bound
pub ends_in_bound : (k : SchedulingTask) (claim : Claim) (b : ℤ) → IsSound k
    → bound_by claim k ≡ Ok b → last_result None (arithmetic k claim) ≡ Some b
ends_in_bound k claim b sound is =
    last_result_of None (first_terms k claim) (last_terms k claim)
    ∙ ap (λ (z : ℤ). Some z) (last_is_bound k claim b sound is)
