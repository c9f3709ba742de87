-- What a schedule comes to.
use Rattle.std.proofs.Common.{◌≡◌, ◌<◌, ◌≤ℤ◌, ◌<ℤ◌, ◌-ℤ◌, ℤ, pos, negsuc, ℕ, int_le, nat_le, unsigned_abs, Bool, true, false, cond, refl, sym, subst, ap, ◌∙◌, arith, List, Option, Some, None, Result, Ok, Err}
use Rattle.std.specs.Int.Signed.{le_z_yes}
use Rattle.std.specs.Prelude.{T}
use Rattle.std.proofs.lemmas.Bool.{le-leb, lt-ltb}
use Rattle.std.proofs.lemmas.Bool.Decides.{nat_tests}
use Rattle.std.proofs.lemmas.Int.{ints}
use Rattle.std.proofs.lemmas.List.Sorted.{All-permutation, IsPermutation-sym}
use Rattle.tf_model.specs.SchedulingTask.{SchedulingTask}
use Rattle.tf_model.specs.Sound.{IsSound}
use Rattle.tf_model.specs.Timetable.{Timetable}
use Rattle.tf_model.specs.Cost.{IsBest}
use Rattle.tf_model.specs.Feasible.{Fits as FitsTask}
use Rattle.tf_schedule.specs.declared.fit.Misfit.{Misfit as MisfitOf}
use Rattle.tf_schedule.specs.declared.piece.Piece.{Piece}
use Rattle.tf_schedule.specs.Drawing.{drawing, IsOnMachine}
use Rattle.tf_schedule.proofs.Permuted.{drawing_permutation, drawing_only}
use Rattle.tf_schedule.proofs.Excludes.{no_misfit}
use Rattle.tf_check.specs.Accepted.{IsAccepted, IsBestAnswer}
use Rattle.tf_check.specs.Bound.{bound_by}
use Rattle.tf_check.specs.Claim.{AnswerData, Claim}
use Rattle.tf_check.specs.Judgement.{IsJudged}
use Rattle.tf_check.specs.Laws.{bound_law}
use Rattle.tf_check.specs.declared.fault.BoundFault.{BoundFault}
use Rattle.tf_check.specs.Verdict.{DrawsFitting}
use Rattle.tf_check.proofs.Verdicts.{fault_excludes}
use Rattle.tf_text.specs.AnswerText.{SheetData}
use Rattle.tf_engine.specs.Checking.{IsFor}
use Rattle.tf_check.specs.declared.judgement.Fit.{Fit}
use Rattle.tf_check.specs.declared.judgement.Fit.TheVariants.{Fits, NoSchedule, Misfit}
use Rattle.tf_evaluate.specs.declared.evaluation.Standing.TheVariants.{Best, Beaten}
use Rattle.tf_evaluate.specs.declared.evaluation.ProblemFit.{ProblemFit}
use Rattle.tf_evaluate.specs.declared.evaluation.ProblemFit.TheVariants as fits
use Rattle.tf_evaluate.specs.EvaluationData.{problem_fit, standing_of}
use Rattle.tf_evaluate.specs.declared.evaluation.Detail.{Detail}
use Rattle.tf_evaluate.specs.declared.step.Step.{Step}
use Rattle.tf_evaluate.specs.Evaluating.{IsLeastCost, HasFit, HasStanding, HasGap, ShowsLeast, bound_for, EndsInBound, IsOptimum, steps_for}

-- ---- a schedule that fits

no_more : (a b : ℤ) → int_le a b ≡ true → a ≤ℤ b
no_more a b e = le_z_yes (subst T (sym e) tt)

below : (a b : ℕ) → nat_le a b ≡ false → b < a
below a b e = grind (arith, nat_tests)

more : (a b : ℤ) → int_le a b ≡ false → b <ℤ a
more (pos a) (pos b) e = record { lt = subst T (sym (lt-ltb b a (below a b e))) tt }
more (pos a) (negsuc b) e = record { lt = tt }
more (negsuc a) (pos b) e = cc
more (negsuc a) (negsuc b) e = record { lt = subst T (sym (lt-ltb a b (below b a e))) tt }

fitting_standing : (k : SchedulingTask) (sheet : SheetData) (value best : ℤ) (b : Bool)
    → int_le value best ≡ b → IsFor k sheet × IsJudged k sheet.answer.pieces (Fits value)
    → IsLeastCost k best → HasStanding k sheet (cond b Best Beaten)
fitting_standing k sheet value best true e (is, (rows, fitting, costs)) (least, is_best) = (
  is,
  rows,
  fitting,
  record {
    fits = fitting.fits;
    value = refl;
    least = λ other fits.
        omega (arith, ints, costs, is_best.least other fits, no_more value best e);
  },
)
fitting_standing k sheet value best false e (is, (rows, fitting, costs)) (least, is_best) = (
  is,
  rows,
  fitting,
  least,
  is_best.fits,
  omega (arith, ints, costs, is_best.value, more value best e),
)

-- it is best where its certificate bounds as much
own_least : (k : SchedulingTask) (sheet : SheetData) (claim : Claim) (own : Fit) → IsSound k
    → IsJudged k sheet.answer.pieces own
    → ShowsLeast k (Some (problem_fit own)) (bound_for k claim (Some (problem_fit own)))
own_least k sheet claim (Fits value) sound (rows, fitting, costs) =
    least_under (bound_by claim k) refl
  where
    least_under : (found : Result ℤ BoundFault) → bound_by claim k ≡ found
        → ShowsLeast k (Some (fits.Fits (Some value))) (Some found)
    least_under (Ok bound) bounded = λ enough. (
      rows,
      record {
        fits = fitting.fits;
        value = costs;
        least = λ other fits.
            omega (arith, ints, enough, bound_law claim k other bound sound bounded fits);
      },
    )
    least_under (Err fault) bounded = tt
own_least k sheet claim (NoSchedule fault) sound h = tt
own_least k sheet claim (Misfit misfit) sound h = tt

pub shows_least : (k : SchedulingTask) (sheet : SheetData) (claim : Claim) (fit : Option ProblemFit)
    → IsSound k → HasFit k sheet fit → ShowsLeast k fit (bound_for k claim fit)
shows_least k sheet claim (Some fit) sound (is, (own, same, judged)) =
    subst (λ (f : ProblemFit). ShowsLeast k (Some f) (bound_for k claim (Some f))) (sym same)
    (own_least k sheet claim own sound judged)
shows_least k sheet claim None sound h = tt

-- ---- a schedule that does not

-- pieces with a misfit draw nothing that fits
misfit_excludes : (k : SchedulingTask) (ps : List Piece) (misfit : MisfitOf) (rows : Timetable)
    → IsJudged k ps (Misfit misfit) → DrawsFitting k ps rows → ⊥
misfit_excludes k ps misfit rows (qs, kept, schedule, first, other) h =
    let same : drawing k.machines qs ≡ drawing k.machines ps =
    sym (drawing_permutation k.machines qs ps schedule.none_twice
    (IsPermutation-sym ps qs kept)) in
    let drawn : rows ≡ drawing k.machines qs =
    drawing_only k.machines ps rows h.draws ∙ sym same in
    other (no_misfit k qs schedule
    (All-permutation (λ p. 0 < p.job) ps qs kept h.draws.numbered)
    (All-permutation (IsOnMachine k.machines) ps qs kept h.draws.on_machines)
    (subst (FitsTask k) drawn h.fits) misfit first)

own_standing : (k : SchedulingTask) (sheet : SheetData) (own : Fit) (best : ℤ) → IsFor k sheet
    → IsJudged k sheet.answer.pieces own → IsLeastCost k best
    → HasStanding k sheet (standing_of (Some (problem_fit own)) best)
own_standing k sheet (Fits value) best is h least =
    fitting_standing k sheet value best (int_le value best) refl (is, h) least
own_standing k sheet (NoSchedule fault) best is h least = λ _ rows fitting.
    fault_excludes sheet.answer.pieces fault fitting.pieces fitting.draws.none_twice h
own_standing k sheet (Misfit misfit) best is h least = λ _ rows fitting.
    misfit_excludes k sheet.answer.pieces misfit rows h fitting

pub standing_is : (k : SchedulingTask) (sheet : SheetData) (fit : Option ProblemFit) (best : ℤ)
    → HasFit k sheet fit → IsLeastCost k best → HasStanding k sheet (standing_of fit best)
standing_is k sheet (Some fit) best (is, (own, same, judged)) least =
    subst (λ (f : ProblemFit). HasStanding k sheet (standing_of (Some f) best)) (sym same)
    (own_standing k sheet own best is judged least)
standing_is k sheet None best h least = λ is rows fitting. h is

-- ---- the gap

no_size : (z : ℤ) → unsigned_abs z ≡ 0 → z ≡ pos 0
no_size (pos n) e = ap pos e
no_size (negsuc n) e = absurd (omega (arith, e))

le_self : (b : ℤ) → int_le b b ≡ true
le_self (pos n) = le-leb n n (omega arith)
le_self (negsuc n) = le-leb n n (omega arith)

best_only : (b : Bool) → cond b Best Beaten ≡ Best → b ≡ true
best_only true e = refl
best_only false e = cc

own_gap : (k : SchedulingTask) (sheet : SheetData) (own : Fit) (best : ℤ)
    → IsJudged k sheet.answer.pieces own → IsLeastCost k best → HasGap (Some (problem_fit own)) best
own_gap k sheet (Fits value) best (rows, fitting, costs) (least, is_best) =
    let above : best ≤ℤ value =
    omega (arith, ints, costs, is_best.least rows fitting.fits) in (
      λ none.
          let apart : value -ℤ best ≡ pos 0 = no_size (value -ℤ best) none in
          let same : value ≡ best = omega (arith, ints, apart) in
          ap (λ b. cond b Best Beaten)
          (ap (λ v. int_le v best) same ∙ le_self best),
      λ is.
          let below : value ≤ℤ best = no_more value best (best_only (int_le value best) is) in
          let apart : value -ℤ best ≡ pos 0 = omega (arith, ints, above, below) in
          ap unsigned_abs apart,
    )
own_gap k sheet (NoSchedule fault) best h least = tt
own_gap k sheet (Misfit misfit) best h least = tt

pub gap_is : (k : SchedulingTask) (sheet : SheetData) (fit : Option ProblemFit) (best : ℤ)
    → HasFit k sheet fit → IsLeastCost k best → HasGap fit best
gap_is k sheet (Some fit) best (is, (own, same, judged)) least =
    subst (λ (f : ProblemFit). HasGap (Some f) best) (sym same)
    (own_gap k sheet own best judged least)
gap_is k sheet None best h least = tt

-- ---- the optimum

-- an accepted answer's certificate bounds no more than its value
pub bounds_value : (k : SchedulingTask) (a : AnswerData) → IsSound k → IsAccepted k a
    → bound_by a.certificate k ≡ Ok a.value
bounds_value k a sound is =
    let same : is.bound ≡ a.value =
    omega (
      arith,
      ints,
      is.enough,
      is.value,
      bound_law a.certificate k is.rows is.bound sound is.bounded is.fits,
    ) in
    is.bounded ∙ ap Ok same

-- its value is the optimum, and what comes of the certificate is the optimum's arithmetic
pub optimum_is : (detail : Detail) (k : SchedulingTask) (a : AnswerData) (best bound : ℤ)
    (claim : Claim) (steps : List Step) → IsSound k → IsAccepted k a → IsBestAnswer k a
    → best ≡ a.value → bound ≡ a.value → claim ≡ a.certificate
    → steps ≡ steps_for detail (Some (Ok bound)) k claim
    → EndsInBound detail (Some (Ok bound)) steps → IsOptimum detail k best steps
optimum_is detail k a best bound claim steps sound is is_best best_is bound_is claim_is steps_are
    ends =
    let same : bound ≡ best = bound_is ∙ sym best_is in
    record {
      least = (is_best.rows, subst (IsBest k is_best.rows) (sym best_is) is_best.best);
      claim = a.certificate;
      bounded = bounds_value k a sound is ∙ ap (λ (z : ℤ). Ok z) (sym best_is);
      steps_are = steps_are ∙ ap (λ (z : ℤ). steps_for detail (Some (Ok z)) k claim) same
          ∙ ap (steps_for detail (Some (Ok best)) k) claim_is;
      ends = subst (λ (z : ℤ). EndsInBound detail (Some (Ok z)) steps) same ends;
    }
