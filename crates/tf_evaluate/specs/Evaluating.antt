-- How an answer stands to a task.
use Rattle.std.specs.Prelude.{◌≡◌, ◌↔◌, ℤ, ◌<ℤ◌, ◌≤ℤ◌, List, [], map, length, Option, None, Some, Result, Ok}
use Rattle.tf_model.specs.declared.problem.Problem.{Problem}
use Rattle.tf_model.specs.SchedulingTask.{SchedulingTask, all_jobs}
use Rattle.tf_model.specs.Timetable.{Timetable}
use Rattle.tf_model.specs.Feasible.{Fits as FitsTask}
use Rattle.tf_model.specs.Cost.{cost, IsBest}
use Rattle.tf_schedule.specs.declared.piece.Piece.{Piece}
use Rattle.tf_check.specs.Claim.{Claim}
use Rattle.tf_check.specs.Bound.{bound_by}
use Rattle.tf_check.specs.Judgement.{IsJudged}
use Rattle.tf_check.specs.Verdict.{DrawsFitting}
use Rattle.tf_check.specs.declared.fault.BoundFault.{BoundFault}
use Rattle.tf_text.specs.AnswerText.{SheetData}
use Rattle.tf_engine.specs.Checking.{IsFor}
use Rattle.tf_check.specs.declared.judgement.Fit.{Fit}
use Rattle.tf_evaluate.specs.declared.evaluation.ProblemFit.{ProblemFit}
use Rattle.tf_evaluate.specs.declared.evaluation.ProblemFit.TheVariants.{Fits, NoSchedule}
use Rattle.tf_evaluate.specs.declared.evaluation.JobOutcome.{JobOutcome}
use Rattle.tf_evaluate.specs.declared.evaluation.Standing.{Standing}
use Rattle.tf_evaluate.specs.declared.evaluation.Standing.TheVariants.{Best, Beaten, Unproved, Unfit}
use Rattle.tf_evaluate.specs.declared.evaluation.Detail.{Detail}
use Rattle.tf_evaluate.specs.declared.evaluation.Detail.TheVariants.{WithArithmetic}
use Rattle.tf_evaluate.specs.declared.step.Step.{Step}
use Rattle.tf_evaluate.specs.EvaluationData.{EvaluationData, OptimumData, problem_fit, standing_of, gap}
use Rattle.tf_evaluate.specs.Outcomes.{outcome_of}
use Rattle.tf_evaluate.specs.Arithmetic.{arithmetic, last_result}

-- some timetable fits and costs this, and none that fits costs less
abbrev pub IsLeastCost : SchedulingTask → ℤ → Type 0
IsLeastCost k best = (rows : Timetable) × IsBest k rows best

-- where a schedule costs no more than its certificate bounds, none that fits costs less
abbrev pub ShowsLeast : SchedulingTask → Option ProblemFit → Option (Result ℤ BoundFault) → Type 0
ShowsLeast k (Some (Fits (Some value))) (Some (Ok bound)) = value ≤ℤ bound → IsLeastCost k value
ShowsLeast k _ _ = Unit {0}

-- how pieces stand to the task, told as of any problem
abbrev pub IsJudgedAs : SchedulingTask → List Piece → ProblemFit → Type 0
IsJudgedAs k ps fit = (own : Fit) × (fit ≡ problem_fit own) × IsJudged k ps own

-- how the pieces of a sheet stand to the task, which may be another one
abbrev pub HasFit : SchedulingTask → SheetData → Option ProblemFit → Type 0
HasFit k sheet None = ¬ (IsFor k sheet)
HasFit k sheet (Some fit) = IsFor k sheet × IsJudgedAs k sheet.answer.pieces fit

-- what the schedule comes to: none that fits costs less, or this other timetable does
abbrev pub HasStanding : SchedulingTask → SheetData → Standing → Type 0
HasStanding k sheet Best = IsFor k sheet × (rows : Timetable)
    × DrawsFitting k sheet.answer.pieces rows × IsBest k rows (cost k rows)
HasStanding k sheet Beaten = IsFor k sheet × (rows : Timetable)
    × DrawsFitting k sheet.answer.pieces rows
    × (other : Timetable) × FitsTask k other × (cost k other <ℤ cost k rows)
HasStanding k sheet Unproved = ⊥
HasStanding k sheet (Unfit why) = IsFor k sheet → (rows : Timetable)
    → ¬ (DrawsFitting k sheet.answer.pieces rows)

-- what the certificate bounds, or its first fault
abbrev pub bound_for : SchedulingTask → Claim → Option ProblemFit → Option (Result ℤ BoundFault)
bound_for k claim None = None
bound_for k claim _ = Some (bound_by claim k)

-- the bound, where there is one, is the certificate's
abbrev pub IsBoundOf : SchedulingTask → Claim → Option (Result ℤ BoundFault) → Type 0
IsBoundOf k claim (Some (Ok bound)) = bound_by claim k ≡ Ok bound
IsBoundOf k claim _ = Unit {0}

-- the certificate's arithmetic, where it is asked for and there is a bound
abbrev pub steps_for : Detail → Option (Result ℤ BoundFault) → SchedulingTask → Claim → List Step
steps_for WithArithmetic (Some (Ok bound)) k claim = arithmetic k claim
steps_for _ _ k claim = []

-- its last step comes to the bound; where it isn't asked for or there is no bound, there is no step
abbrev pub EndsInBound : Detail → Option (Result ℤ BoundFault) → List Step → Type 0
EndsInBound WithArithmetic (Some (Ok bound)) steps = last_result None steps ≡ Some bound
EndsInBound _ _ steps = steps ≡ []

-- the least cost of a timetable that fits, which a certificate bounds, and the arithmetic of that
-- certificate where it is asked for: its last step comes to the least cost
pub record IsOptimum (detail : Detail) (k : SchedulingTask) (best : ℤ) (steps : List Step) : Type 0
  where
    pub least : IsLeastCost k best
    pub claim : Claim
    pub bounded : bound_by claim k ≡ Ok best
    pub steps_are : steps ≡ steps_for detail (Some (Ok best)) k claim
    pub ends : EndsInBound detail (Some (Ok best)) steps

-- what happens to the jobs from 1 on, where the pieces make a schedule
abbrev pub outcomes_for : SchedulingTask → List Piece → Option ProblemFit → List JobOutcome
outcomes_for k ps None = []
outcomes_for k ps (Some (NoSchedule fault)) = []
outcomes_for k ps _ = map (outcome_of k ps) (all_jobs k)

-- the gap is 0 exactly where the schedule is best
abbrev pub HasGap : Option ProblemFit → ℤ → Type 0
HasGap (Some (Fits (Some value))) best =
    (gap value best ≡ 0) ↔ (standing_of (Some (Fits (Some value))) best ≡ Best)
HasGap _ best = Unit {0}

pub record IsEvaluation (detail : Detail) (problem : Problem) (k : SchedulingTask)
    (sheet : SheetData) (e : EvaluationData OptimumData) : Type 0 where
  pub problem_is : e.problem ≡ problem
  pub jobs : e.jobs ≡ length k.jobs
  pub machines : e.machines ≡ k.machines
  pub fit : HasFit k sheet e.fit
  pub claimed : e.claimed ≡ Some sheet.answer.value
  pub best : IsLeastCost k e.reference.best
  pub bound : e.reference.bound ≡ bound_for k sheet.answer.certificate e.fit
  pub steps : e.reference.steps ≡ steps_for detail e.reference.bound k sheet.answer.certificate
  pub outcomes : e.outcomes ≡ outcomes_for k sheet.answer.pieces e.fit
