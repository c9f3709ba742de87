-- From the task that serves an objective, and how pieces stand to it, to what they come to by that
-- objective.
use Rattle.std.proofs.Common.{◌≡◌, Bool, true, false, not, ◌||◌, ℤ, List, length, Option, None, Some, Result, Ok, Err, IfOk, IfErr, refl, subst, inr, IsTrue}
use Rattle.std.specs.List.{All}
use Rattle.std.specs.List.Sorted.{IsPermutation}
use Rattle.std.proofs.lemmas.Bool.{and_from}
use Rattle.std.proofs.lemmas.List.Elements.{All-weaker}
use Rattle.tf_model.specs.declared.problem.Goal.{Goal}
use Rattle.tf_posed.specs.ProblemData.{ProblemData}
use Rattle.tf_posed.specs.ProblemCost.{problem_cost, problem_cost_by}
use Rattle.tf_prepare.specs.Preparing.{uses_weight, uses_due, prepared_in}
use Rattle.tf_schedule.specs.declared.piece.Piece.{Piece}
use Rattle.tf_schedule.specs.declared.schedule.PieceFault.{PieceFault}
use Rattle.tf_schedule.specs.Drawing.{drawing}
use Rattle.tf_schedule.specs.Lanes.{LanesData, HasLanes}
use Rattle.tf_schedule.specs.Schedule.{IsSchedule, HasFirstFault}
use Rattle.tf_fit.specs.CostBy.{IsCostOrBeyond}
use Rattle.tf_schedule.specs.ProblemMisfit.{IsKnownTo}
use Rattle.tf_schedule.specs.ProblemJudged.{FitsBy}
use Rattle.tf_evaluate.specs.declared.evaluation.ProblemFit.{ProblemFit}
use Rattle.tf_evaluate.specs.declared.evaluation.ProblemFit.TheVariants.{Fits, NoSchedule, Misfit}
use Rattle.tf_evaluate.specs.EvaluationData.{value_in}
use Rattle.tf_assess.specs.Assessing.{IsProblemJudged}
use Rattle.tf_assess.specs.Measures.{PosedData, IsMeasure, by_goal}
use Rattle.tf_assess.specs.Placed.{serves, IsSorted, IsUnfit, HasTable}
use Rattle.tf_assess.proofs.Assessing.{fits_judged}
use Rattle.tf_assess.proofs.Serving.{task_for, prepared_for}
use Rattle.tf_assess.proofs.Alike.{known_for, fits_for, misfit_for, cost_for}

-- a schedule is a sorting of the pieces that it is made of
pub sorted : (ps : List Piece) (schedule : Result (List Piece) PieceFault)
    → IfOk schedule (IsPermutation ps) → IfOk schedule IsSchedule
    → IfErr schedule (HasFirstFault ps) → IsSorted ps schedule
sorted ps (Ok qs) kept is fault = (kept, is)
sorted ps (Err fault) kept is had = had

-- an objective looks at the fields that it looks at
pub serves_itself : (goal : Goal) → IsTrue (serves goal goal)
serves_itself goal =
    and_from (not (uses_weight goal) || uses_weight goal) (not (uses_due goal) || uses_due goal)
    (itself (uses_weight goal)) (itself (uses_due goal))
  where
    itself : (b : Bool) → IsTrue (not b || b)
    itself true = refl
    itself false = refl

module _ (posed : PosedData) (ps : List Piece) (rich goal : Goal) (k : ProblemData)
    (meant : prepared_in posed.timed (by_goal posed.problem rich) posed.machines ≡ Ok k)
    (served : IsTrue (serves rich goal)) where
  abbrev l : ProblemData
  l = task_for goal k

  made : prepared_in posed.timed (by_goal posed.problem goal) posed.machines ≡ Ok l
  made = prepared_for posed.problem rich goal served posed.timed posed.machines k meant

  unfit : (fit : ProblemFit) → IsProblemJudged k ps fit → IsUnfit fit
      → IsProblemJudged l ps fit × (value_in (Some fit) ≡ None)
  unfit (Fits value) judged none = absurd none
  unfit (NoSchedule fault) judged none = (judged, refl)
  unfit (Misfit misfit) (qs, kept, schedule, first) none =
      ((qs, kept, schedule, misfit_for goal k qs misfit first), refl)

  -- pieces that do not fit have no cost
  pub no_measure : HasTable k ps None → IsMeasure posed ps goal None
  no_measure (fit, judged, none) =
      let had = unfit fit judged none in inr (l, made, (fit, had.0, had.1))

  valued : (value : Option ℤ) → IsProblemJudged l ps (Fits value) → IsMeasure posed ps goal value
  valued None judged = inr (l, made, (Fits None, judged, refl))
  valued (Some value) judged = record { task = l; meant = made; fits = judged }

  -- those that fit have the cost that the table gives
  pub measure : (jobs : LanesData) → HasTable k ps (Some jobs) → (value : Option ℤ)
      → ((qs : List Piece) → IsSchedule qs → All (IsKnownTo k) qs
      → HasLanes (length k.jobs) qs jobs
      → IsCostOrBeyond value (problem_cost_by goal k (drawing k.machines qs)))
      → IsMeasure posed ps goal value
  measure jobs (qs, sorting) value costs =
      let fits : FitsBy l qs = record {
        known = All-weaker (IsKnownTo k) (IsKnownTo l) (known_for goal k) qs sorting.judged.known;
        draws = sorting.judged.draws;
        fits = fits_for goal k (drawing k.machines qs) sorting.judged.fits;
      } in
      let cost : IsCostOrBeyond value (problem_cost l (drawing l.machines qs)) =
      subst (IsCostOrBeyond value) (cost_for goal k (drawing k.machines qs))
      (costs qs sorting.schedule sorting.judged.known sorting.table) in
      valued value (fits_judged l ps qs sorting.kept sorting.schedule fits value cost)
