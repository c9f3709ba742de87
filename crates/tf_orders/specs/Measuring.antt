-- What the schedules of orders are measured by: in a class the optimum, and otherwise the strongest
-- lower bound that is found. Where the text of a bound is offered, that is a lower bound in a class too,
-- and no weaker one than the one that is offered.
use Rattle.std.specs.Prelude.{◌≡◌, ◌⊎◌, ℕ, Bool, false, List, length, IsTrue, IsFalse, is_some, Result, Ok, Option, if◌then◌else◌}
use Rattle.tf_engine.specs.RequestData.{RequestData}
use Rattle.tf_engine.specs.Faults.{Refused}
use Rattle.tf_engine.specs.Refusal.{problem_for, task_for}
use Rattle.tf_model.specs.declared.problem.Problem.{Problem}
use Rattle.tf_plan.specs.Order.{IsFeasible}
use Rattle.tf_posed.specs.Agreement.{posed}
use Rattle.tf_posed.specs.ProblemData.{ProblemData, is_job_shop}
use Rattle.tf_bounding.specs.RunBounding.{problem_in, problem_task_for}
use Rattle.tf_bound_text.specs.BoundSheetData.{BoundSheetData}
use Rattle.tf_evaluate.specs.declared.evaluation.Detail.{Detail}
use Rattle.tf_evaluate.specs.declared.evaluation.Detail.TheVariants.{Summary}
use Rattle.tf_evaluate.specs.Evaluating.{IsOptimum}
use Rattle.tf_assess.specs.Assessing.{IsWeighed}
use Rattle.tf_assess.specs.RunRating.{is_solved}
use Rattle.tf_assess.specs.Measures.{PosedData}
use Rattle.tf_schedule.specs.declared.piece.Piece.{Piece}
use Rattle.tf_orders.specs.declared.order.Turn.{Turn}
use Rattle.tf_orders.specs.declared.measure.Measure.{Measure}
use Rattle.tf_orders.specs.declared.measure.Measure.TheVariants.{Optimum, Bound}
use Rattle.tf_orders.specs.declared.run_orders.OrderForm.{OrderForm}
use Rattle.tf_orders.specs.declared.run_orders.OrderForm.TheVariants.{Single, Lines, Numbered, Ruled, Pieces}
use Rattle.tf_orders.specs.declared.flaw.Flaw.{Flaw}
use Rattle.tf_orders.specs.Orders.{IsFlaw, IsOrder, IsNoOrder}
use Rattle.tf_orders.specs.Laying.{schedule_of, orders_of}
use Rattle.tf_orders.specs.Operations.{IsOperationFlaw, IsOperationOrder, IsNoOperationOrder, operation_schedule_of}

-- schedules are measured by the optimum: the problem of the line is of a class, and no bound is offered
abbrev pub is_by_optimum : Bool → List ℕ → Bool
is_by_optimum bounded text = if bounded then false else is_solved text

-- the problem of the line: by a solver or by its lower bounds
abbrev pub measured_problem : Bool → List ℕ → Result Problem Refused
measured_problem bounded text =
    if is_by_optimum bounded text then problem_for text else problem_in text

-- how much is reported of the certificate of the optimum: a list of orders has no place for it
abbrev pub detail_of : OrderForm → Detail
detail_of (Single detail) = detail
detail_of (Ruled rule detail) = detail
detail_of (Pieces detail) = detail
detail_of (Lines goes_on) = Summary
detail_of (Numbered goes_on) = Summary

-- the request and the instance text mean a task, and this is its optimum or a lower bound
abbrev pub IsMeasure : {A : Type 0} → Detail → Option BoundSheetData → RequestData → List ℕ
    → Measure A → Type 0
IsMeasure detail offer request text (Optimum problem task best steps others) =
    IsTrue (is_by_optimum (is_some offer) request.problem) × (problem_for request.problem ≡ Ok problem)
    × (task_for request text ≡ Ok task) × IsOptimum detail task best steps.items
IsMeasure detail offer request text (Bound task weighed others) =
    IsFalse (is_by_optimum (is_some offer) request.problem)
    × (problem_task_for request text ≡ Ok task)
    × IsFeasible task × IsWeighed task offer weighed

-- the instance by which schedules are measured by the other objectives, where that is asked for
abbrev pub others_of : {A : Type 0} → Measure A → Option PosedData
others_of (Optimum problem task best steps others) = others
others_of (Bound task weighed others) = others

-- the task, read as that of a problem
abbrev pub posed_in : {A : Type 0} → Measure A → ProblemData
posed_in (Optimum problem task best steps others) = posed task
posed_in (Bound task weighed others) = task

-- the text says an order of the jobs, and the pieces are its semi-active schedule
pub record IsLaid (k : ProblemData) (text : List ℕ) (ps : List Piece) : Type 0 where
  pub turns : List Turn
  pub order : IsOrder (length k.jobs) (orders_of k) text turns
  pub pieces : ps ≡ schedule_of k turns

-- it says an order of the operations of a job shop, and the pieces are its semi-active schedule
pub record IsOperated (k : ProblemData) (text : List ℕ) (ps : List Piece) : Type 0 where
  pub turns : List Turn
  pub order : IsOperationOrder k text turns
  pub pieces : ps ≡ operation_schedule_of k turns

-- one of the two
abbrev pub IsScheduledBy : ProblemData → List ℕ → List Piece → Type 0
IsScheduledBy k text ps = IsLaid k text ps ⊎ IsOperated k text ps

-- the text says neither
pub record IsUnorderedBy (k : ProblemData) (text : List ℕ) : Type 0 where
  pub jobs : IsNoOrder (length k.jobs) (orders_of k) text
  pub operations : IsNoOperationOrder k text

-- this is wrong with it
abbrev pub IsFlawBy : ProblemData → List ℕ → Flaw → Type 0
IsFlawBy k text flaw =
    (IsTrue (is_job_shop k.problem.env) × IsOperationFlaw k text flaw)
    ⊎ (IsFalse (is_job_shop k.problem.env) × IsFlaw (length k.jobs) (orders_of k) text flaw)

-- ---- the same by a measure

abbrev pub IsScheduled : {A : Type 0} → Measure A → List ℕ → List Piece → Type 0
IsScheduled m text ps = IsScheduledBy (posed_in m) text ps

abbrev pub IsUnordered : {A : Type 0} → Measure A → List ℕ → Type 0
IsUnordered m text = IsUnorderedBy (posed_in m) text

abbrev pub IsFlawOf : {A : Type 0} → Measure A → List ℕ → Flaw → Type 0
IsFlawOf m text flaw = IsFlawBy (posed_in m) text flaw
