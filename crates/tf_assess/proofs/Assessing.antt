-- How an answer stands to the task of a problem.
use Rattle.std.proofs.Common.{◌≡◌, ◌<◌, ◌≤◌, ◌-◌, Bool, true, false, cond, ℤ, ◌≤ℤ◌, List, get_or, [], length, map, Option, None, Some, refl, sym, subst, ◌∙◌, arith}
use Rattle.std.specs.List.{All}
use Rattle.std.specs.List.Sorted.{IsPermutation}
use Rattle.std.proofs.lemmas.Bool.Decides.{Decides-int_eq}
use Rattle.std.specs.Ordering.{int_eq}
use Rattle.std.proofs.lemmas.List.Sorted.{All-permutation, IsPermutation-sym}
use Rattle.tf_posed.specs.ProblemData.{ProblemData, problem_jobs}
use Rattle.tf_model.specs.Timetable.{Timetable, cell}
use Rattle.tf_posed.specs.FitsProblem.{FitsProblem}
use Rattle.tf_posed.specs.ProblemCost.{problem_cost, IsLowerBound}
use Rattle.tf_check.proofs.Verdicts.{fault_excludes}
use Rattle.tf_plan.proofs.Complete.{no_misfit}
use Rattle.tf_schedule.specs.declared.piece.Piece.{Piece}
use Rattle.tf_schedule.specs.Piece.{machine_of}
use Rattle.tf_schedule.specs.Schedule.{IsPiece, IsSchedule, NoneTwice}
use Rattle.tf_schedule.specs.Drawing.{drawing, IsOnMachine}
use Rattle.tf_schedule.specs.Amounts.{start_of}
use Rattle.tf_schedule.specs.ProblemMisfit.{IsKnownTo}
use Rattle.tf_schedule.specs.declared.misfit.ProblemMisfit.{ProblemMisfit}
use Rattle.tf_schedule.proofs.Cells.{piece_draws, cell_within}
use Rattle.tf_schedule.proofs.Times.{sound_times}
use Rattle.tf_schedule.proofs.Permuted.{drawing_permutation, drawing_only, draws_drawing}
use Rattle.tf_schedule.proofs.Scan.{claims_permutation}
use Rattle.tf_schedule.specs.Lanes.{LanesData, HasLanes}
use Rattle.tf_fit.specs.CostBy.{IsCostOrBeyond}
use Rattle.tf_evaluate.specs.Outcomes.{outcome_on}
use Rattle.tf_evaluate.proofs.PermutedOutcomes.{sorted_outcomes}
use Rattle.tf_schedule.specs.ProblemJudged.{FitsBy}
use Rattle.tf_search.specs.declared.strongest.Found.{Found}
use Rattle.tf_search.specs.Strongest.{IsFound}
use Rattle.tf_text.specs.AnswerText.{SheetData}
use Rattle.tf_evaluate.specs.declared.evaluation.ProblemFit.{ProblemFit}
use Rattle.tf_evaluate.specs.declared.evaluation.ProblemFit.TheVariants.{Fits, NoSchedule, Misfit}
use Rattle.tf_assess.specs.Assessing.{shown_by, assessed_of, counted_by, problem_outcomes, DrawsProblem, IsProblemJudged, HasProblemFit, HasProblemTable, HasAssessed}

-- from the schedule to the pieces that it sorts
draws_problem : (k : ProblemData) (ps qs : List Piece) → IsPermutation ps qs → IsSchedule qs
    → FitsBy k qs → DrawsProblem k ps (drawing k.machines qs)
draws_problem k ps qs kept schedule fits =
    let back = IsPermutation-sym ps qs kept in
    let once : NoneTwice ps =
    λ n t. omega (arith, claims_permutation machine_of ps qs n t kept, schedule.none_twice n t) in
    let numbered : All (λ p. 0 < p.job) ps =
    All-permutation (λ p. 0 < p.job) qs ps back fits.draws.numbered in
    let on : All (IsOnMachine k.machines) ps =
    All-permutation (IsOnMachine k.machines) qs ps back fits.draws.on_machines in
    let same : drawing k.machines qs ≡ drawing k.machines ps =
    sym (drawing_permutation k.machines qs ps schedule.none_twice back) in
    record {
      pieces = All-permutation IsPiece qs ps back schedule.sound;
      draws = rw same (draws_drawing k.machines ps once numbered on);
      fits = fits.fits;
    }

pub fits_judged : (k : ProblemData) (ps qs : List Piece) → IsPermutation ps qs → IsSchedule qs
    → FitsBy k qs → (value : Option ℤ)
    → IsCostOrBeyond value (problem_cost k (drawing k.machines qs))
    → IsProblemJudged k ps (Fits value)
fits_judged k ps qs kept schedule fits value costs =
    (drawing k.machines qs, draws_problem k ps qs kept schedule fits, costs)

-- ---- what happens to the jobs

pub table_outcomes : (k : ProblemData) (ps : List Piece) (fit : ProblemFit) (l : LanesData)
    → HasProblemTable k ps fit (Some l)
    → map (outcome_on (counted_by k) l) (problem_jobs k) ≡ problem_outcomes k ps (Some fit)
table_outcomes k ps (Fits value) l (qs, kept, schedule, l', is, has) =
    sorted_outcomes (counted_by k) (length k.jobs) ps qs kept schedule l
    (subst (HasLanes (length k.jobs) qs) (same l l' is) has)
  where
    same : (l l' : LanesData) → Some l ≡ Some l' → l' ≡ l
    same l l' e = cc
table_outcomes k ps (NoSchedule fault) l is = absurd (cc)
table_outcomes k ps (Misfit misfit) l (qs, kept, schedule, l', is, has) =
    sorted_outcomes (counted_by k) (length k.jobs) ps qs kept schedule l
    (subst (HasLanes (length k.jobs) qs) (same l l' is) has)
  where
    same : (l l' : LanesData) → Some l ≡ Some l' → l' ≡ l
    same l l' e = cc

-- without a table there is no schedule
pub no_outcomes : (k : ProblemData) (ps : List Piece) (fit : ProblemFit)
    → HasProblemTable k ps fit None → [] ≡ problem_outcomes k ps (Some fit)
no_outcomes k ps (Fits value) (qs, kept, schedule, l, is, has) = absurd (cc)
no_outcomes k ps (NoSchedule fault) is = refl
no_outcomes k ps (Misfit misfit) (qs, kept, schedule, l, is, has) = absurd (cc)

-- ---- pieces that do not fit draw nothing that does

-- pieces that draw rows of the task's jobs alone are of such jobs
known : (k : ProblemData) (ps : List Piece) → IsSchedule ps → All (λ p. 0 < p.job) ps
    → All (IsOnMachine k.machines) ps → FitsProblem k (drawing k.machines ps) → All (IsKnownTo k) ps
known k ps schedule numbered on fits i d h =
    let p = get_or ps i d in
    let drawn : cell (drawing k.machines ps) (start_of p) (p.machine - 1) ≡ p.job =
    piece_draws k.machines ps i d (start_of p) schedule.none_twice on h (omega arith)
    (sound_times p (schedule.sound i d h)) in
    let within : cell (drawing k.machines ps) (start_of p) (p.machine - 1) ≤ length k.jobs =
    cell_within (length k.jobs) (drawing k.machines ps) (start_of p) (p.machine - 1)
    fits.jobs_only in
    ((numbered i d h, omega (arith, drawn, within)), on i d h)

misfit_excludes : (k : ProblemData) (ps : List Piece) (misfit : ProblemMisfit) (rows : Timetable)
    → IsProblemJudged k ps (Misfit misfit) → DrawsProblem k ps rows → ⊥
misfit_excludes k ps misfit rows (qs, kept, schedule, first) h =
    let same : drawing k.machines qs ≡ drawing k.machines ps =
    sym (drawing_permutation k.machines qs ps schedule.none_twice
    (IsPermutation-sym ps qs kept)) in
    let drawn : rows ≡ drawing k.machines qs =
    drawing_only k.machines ps rows h.draws ∙ sym same in
    let fits = subst (FitsProblem k) drawn h.fits in
    no_misfit k qs
    (known k qs schedule (All-permutation (λ p. 0 < p.job) ps qs kept h.draws.numbered)
    (All-permutation (IsOnMachine k.machines) ps qs kept h.draws.on_machines) fits)
    fits misfit first

-- ---- what a schedule comes to

module _ (k : ProblemData) (sheet : SheetData) where
  standing_at : (value bound : ℤ) → HasProblemFit k sheet (Some (Fits (Some value)))
      → IsLowerBound k bound → (b : Bool) → (b ≡ true → value ≡ bound)
      → HasAssessed k sheet (shown_by (cond b (Some value) None))
  standing_at value bound (is, (rows, draws, costs)) least true equal = (
    is,
    rows,
    draws,
    record {
      fits = draws.fits;
      value = refl;
      least = λ other fits. subst (λ (z : ℤ). z ≤ℤ problem_cost k other)
          (sym (equal refl) ∙ costs) (least other fits);
    },
  )
  standing_at value bound (is, (rows, draws, costs)) least false equal = (is, rows, draws)

  -- what follows of the fit and the bound
  pub standing_is : {A : Type 0} (fit : Option ProblemFit) (bound : Found A)
      → HasProblemFit k sheet fit → IsFound k bound
      → HasAssessed k sheet (assessed_of fit bound.value)
  standing_is None bound h found = λ is rows draws. h is
  standing_is (Some (NoSchedule fault)) bound (is, first) found = λ _ rows draws.
      fault_excludes sheet.answer.pieces fault draws.pieces draws.draws.none_twice first
  standing_is (Some (Misfit misfit)) bound (is, first) found = λ _ rows draws.
      misfit_excludes k sheet.answer.pieces misfit rows first draws
  standing_is (Some (Fits None)) bound (is, (rows, draws, costs)) found = (is, rows, draws)
  standing_is (Some (Fits (Some value))) bound h found =
      standing_at value bound.value h found.bound (int_eq value bound.value)
      (Decides-int_eq value bound.value).0
