-- How an answer stands to the task of a problem.
use Rattle.std.specs.Prelude.{◌≡◌, ℕ, ℤ, ◌≤ℤ◌, ◌⊎◌, List, [], length, map, Option, None, Some, if◌then◌else◌}
use Rattle.std.specs.List.{All}
use Rattle.std.specs.List.Sorted.{IsPermutation}
use Rattle.std.specs.Ordering.{int_eq}
use Rattle.tf_model.specs.declared.problem.Problem.{Problem}
use Rattle.tf_model.specs.Timetable.{Timetable}
use Rattle.tf_posed.specs.ProblemData.{ProblemData, problem_jobs}
use Rattle.tf_posed.specs.FitsProblem.{FitsProblem}
use Rattle.tf_posed.specs.ProblemCost.{problem_cost, IsProblemBest}
use Rattle.tf_schedule.specs.declared.piece.Piece.{Piece}
use Rattle.tf_schedule.specs.Schedule.{IsPiece, IsSchedule, HasFirstFault}
use Rattle.tf_schedule.specs.Drawing.{Draws}
use Rattle.tf_schedule.specs.Lanes.{LanesData, HasLanes}
use Rattle.tf_fit.specs.CostBy.{IsCostOrBeyond, counted_at}
use Rattle.tf_schedule.specs.declared.misfit.ProblemMisfit.{ProblemMisfit}
use Rattle.tf_schedule.specs.ProblemJudged.{IsJudgedBy}
use Rattle.tf_schedule.specs.ProblemMisfit.{HasFirstMisfit}
use Rattle.tf_search.specs.declared.strongest.Found.{Found}
use Rattle.tf_search.specs.Strongest.{IsFound}
use Rattle.tf_text.specs.AnswerText.{SheetData}
use Rattle.tf_evaluate.specs.declared.evaluation.JobOutcome.{JobOutcome}
use Rattle.tf_evaluate.specs.declared.evaluation.Standing.{Standing}
use Rattle.tf_evaluate.specs.declared.evaluation.Standing.TheVariants.{Best, Beaten, Unproved, Unfit}
use Rattle.tf_evaluate.specs.EvaluationData.{EvaluationData, standing_by}
use Rattle.tf_evaluate.specs.Outcomes.{outcome_by}
use Rattle.tf_posed.specs.ProblemCost.{IsLowerBound}
use Rattle.tf_bound.specs.declared.certificate.BoundCertificate.{BoundCertificate}
use Rattle.tf_bound.specs.Judged.{IsJudgedTask}
use Rattle.tf_bound.specs.declared.fault.BoundFault.{BoundFault}
use Rattle.tf_bound_text.specs.BoundSheetData.{Basis, BoundSheetData, IsValueBy, fault_by}
use Rattle.tf_assess.specs.declared.offered.Offered.{Offered}
use Rattle.tf_assess.specs.declared.offered.Offered.TheVariants.{Bounds, OtherTask, WrongValue, Faulty}
use Rattle.tf_assess.specs.declared.offered.Weighed.{Weighed}
use Rattle.tf_evaluate.specs.declared.evaluation.ProblemFit.{ProblemFit}
use Rattle.tf_evaluate.specs.declared.evaluation.ProblemFit.TheVariants.{Fits, NoSchedule, Misfit}

-- ---- the numbers

-- what the schedule costs, where it is the lower bound
abbrev pub best_in : Option ℤ → ℤ → Option ℤ
best_in (Some value) bound = if int_eq value bound then Some value else None
best_in None bound = None

abbrev pub shown_by : Option ℤ → Standing
shown_by (Some best) = Best
shown_by None = Unproved

-- a schedule that fits is best where it costs the bound
abbrev pub rated_by_bound : ℤ → Option ℤ → Standing
rated_by_bound bound value = shown_by (best_in value bound)

abbrev pub assessed_of : Option ProblemFit → ℤ → Standing
assessed_of fit bound = standing_by (rated_by_bound bound) fit

-- ---- what they mean

-- the pieces draw these rows, and the rows fit the task
pub record DrawsProblem (k : ProblemData) (ps : List Piece) (rows : Timetable) : Type 0 where
  pub pieces : All IsPiece ps
  pub draws : Draws k.machines ps rows
  pub fits : FitsProblem k rows

-- the pieces draw rows that fit and cost this, or this is what is wrong with them first
abbrev pub IsProblemJudged : ProblemData → List Piece → ProblemFit → Type 0
IsProblemJudged k ps (Fits value) =
    (rows : Timetable) × DrawsProblem k ps rows × IsCostOrBeyond value (problem_cost k rows)
IsProblemJudged k ps (NoSchedule fault) = HasFirstFault ps fault
IsProblemJudged k ps (Misfit misfit) =
    (qs : List Piece) × IsPermutation ps qs × IsSchedule qs × HasFirstMisfit k qs misfit

-- where the pieces make a schedule, the table has the extents of the jobs by these pieces
abbrev pub HasProblemTable : ProblemData → List Piece → ProblemFit → Option LanesData → Type 0
HasProblemTable k ps (NoSchedule fault) lanes = lanes ≡ None
HasProblemTable k ps _ lanes = (qs : List Piece) × IsPermutation ps qs × IsSchedule qs
    × (l : LanesData) × (lanes ≡ Some l) × HasLanes (length k.jobs) qs l

-- the pieces, sorted, are a schedule with this table, which fits or has this first misfit
pub record IsSorting (k : ProblemData) (ps qs : List Piece) (jobs : LanesData)
    (misfit : Option ProblemMisfit) : Type 0 where
  pub kept : IsPermutation ps qs
  pub schedule : IsSchedule qs
  pub judged : IsJudgedBy k qs misfit
  pub table : HasLanes (length k.jobs) qs jobs

-- what the task's objective counts of a job that completes at c
abbrev pub counted_by : ProblemData → ℕ → ℕ → ℤ
counted_by k = counted_at k.problem.goal k

-- what happens to each job, where the pieces make a schedule
abbrev pub problem_outcomes : ProblemData → List Piece → Option ProblemFit → List JobOutcome
problem_outcomes k ps None = []
problem_outcomes k ps (Some (NoSchedule fault)) = []
problem_outcomes k ps _ = map (outcome_by (counted_by k) ps) (problem_jobs k)

-- two problems ask the same of each job
pub record HasSameJobs (p q : Problem) : Type 0 where
  pub release : p.release ≡ q.release
  pub prec : p.prec ≡ q.prec
  pub prmp : p.prmp ≡ q.prmp

-- and of the machines of a shop
pub record HasSameShop (p q : Problem) : Type 0 where
  pub prmu : p.prmu ≡ q.prmu
  pub nwt : p.nwt ≡ q.nwt
  pub block : p.block ≡ q.block
  pub rcrc : p.rcrc ≡ q.rcrc

-- they are the same, whether or not their notations name a number of machines
pub record IsSameProblem (p q : Problem) : Type 0 where
  pub env : p.env ≡ q.env
  pub goal : p.goal ≡ q.goal
  pub jobs : HasSameJobs p q
  pub shop : HasSameShop p q

-- a problem and sizes are those of the task
pub record IsOfTask (k : ProblemData) (p : Problem) (n m : ℕ) : Type 0 where
  pub problem : IsSameProblem p k.problem
  pub jobs : n ≡ length k.jobs
  pub machines : m ≡ k.machines

-- the sheet is for the task: its problem is the task's, and so are its sizes
abbrev pub IsForProblem : ProblemData → SheetData → Type 0
IsForProblem k sheet = IsOfTask k sheet.problem sheet.jobs sheet.machines

-- ---- a bound that is offered

-- the bound's text is for the task
abbrev pub IsOfferFor : ProblemData → BoundSheetData → Type 0
IsOfferFor k sheet = IsOfTask k sheet.problem sheet.jobs sheet.machines

-- the number is the value of what the text names, on the task on which it is judged
abbrev pub IsJudgedValue : ProblemData → Basis → ℤ → Type 0
IsJudgedValue k basis b = (other : ProblemData) × IsJudgedTask k other × IsValueBy other basis b

-- what the text names has this fault there, or none
abbrev pub IsJudgedFault : ProblemData → Basis → Option BoundFault → Type 0
IsJudgedFault k basis fault =
    (other : ProblemData) × IsJudgedTask k other × (fault_by other basis ≡ fault)

-- the certificate has no fault and this value, and no timetable that fits costs less
pub record HasValue (k : ProblemData) (sheet : BoundSheetData) (b : ℤ) : Type 0 where
  pub meant : IsOfferFor k sheet
  pub faultless : IsJudgedFault k sheet.basis None
  pub value : IsJudgedValue k sheet.basis b
  pub bound : IsLowerBound k b

-- what the text of a bound comes to on the task
abbrev pub IsOffer : ProblemData → BoundSheetData → Offered → Type 0
IsOffer k sheet (Bounds value) = HasValue k sheet value × (value ≡ sheet.value)
IsOffer k sheet OtherTask = ¬ (IsOfferFor k sheet)
IsOffer k sheet (WrongValue value) = HasValue k sheet value × ¬ (value ≡ sheet.value)
IsOffer k sheet (Faulty fault) = IsOfferFor k sheet × IsJudgedFault k sheet.basis (Some fault)

abbrev pub HasOffered : ProblemData → Option BoundSheetData → Option Offered → Type 0
HasOffered k None None = Unit {0}
HasOffered k (Some sheet) (Some offered) = IsOffer k sheet offered
HasOffered k _ _ = ⊥

-- an offered bound counts: no weaker one is taken in its place
abbrev pub Counts : {A : Type 0} → Option Offered → Found A → Type 0
Counts (Some (Bounds value)) bound = value ≤ℤ bound.value
Counts _ bound = Unit {0}

-- the bound is the one that was found, or the certificate of an offered one
abbrev pub IsUsed : {A : Type 0} → Found A → Offered → BoundCertificate A → Found A → Type 0
IsUsed found offered certificate bound =
    (bound ≡ found)
    ⊎ ((value : ℤ) × (offered ≡ Bounds value)
    × (bound ≡ record { value = value; certificate = certificate }))

-- what is offered, judged, and the stronger of it and of what was found
pub record IsWeighed {A : Type 0} (k : ProblemData) (offer : Option BoundSheetData) (w : Weighed A)
    : Type 0 where
  pub offered : HasOffered k offer w.offered
  pub bound : IsFound k w.bound
  pub counts : Counts w.offered w.bound

-- ---- the assessment

-- how the pieces of a sheet stand to the task, which may be another one
abbrev pub HasProblemFit : ProblemData → SheetData → Option ProblemFit → Type 0
HasProblemFit k sheet None = ¬ (IsForProblem k sheet)
HasProblemFit k sheet (Some fit) = IsForProblem k sheet × IsProblemJudged k sheet.answer.pieces fit

-- what the schedule comes to. Where it is best, every timetable that fits costs as much or more.
abbrev pub HasAssessed : ProblemData → SheetData → Standing → Type 0
HasAssessed k sheet Best = IsForProblem k sheet × (rows : Timetable)
    × DrawsProblem k sheet.answer.pieces rows × IsProblemBest k rows (problem_cost k rows)
HasAssessed k sheet Unproved = IsForProblem k sheet × (rows : Timetable)
    × DrawsProblem k sheet.answer.pieces rows
HasAssessed k sheet Beaten = ⊥
HasAssessed k sheet (Unfit why) = IsForProblem k sheet → (rows : Timetable)
    → ¬ (DrawsProblem k sheet.answer.pieces rows)

pub record IsAssessment {A : Type 0} (k : ProblemData) (offer : Option BoundSheetData)
    (sheet : SheetData) (e : EvaluationData (Weighed A)) : Type 0 where
  pub problem : e.problem ≡ k.problem
  pub jobs : e.jobs ≡ length k.jobs
  pub machines : e.machines ≡ k.machines
  pub fit : HasProblemFit k sheet e.fit
  pub claimed : e.claimed ≡ Some sheet.answer.value
  pub weighed : IsWeighed k offer e.reference
  pub standing : HasAssessed k sheet (assessed_of e.fit e.reference.bound.value)
  pub outcomes : e.outcomes ≡ problem_outcomes k sheet.answer.pieces e.fit
