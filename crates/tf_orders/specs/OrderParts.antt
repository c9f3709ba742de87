-- What the parts of a run over orders give.
use Rattle.std.specs.Prelude.{◌≡◌, ℕ, ◌<◌, ◌≤◌, Bool, true, false, List, length, Option, Result, Ok, Err, IsTrue, IsFalse, MatchResult, ◌⊎◌, ℤ}
use Rattle.std.specs.declared.vec.Vec.{Vec}
use Rattle.tf_words.specs.Words.{kept_lines, lines}
use Rattle.tf_model.specs.Limit.{most_bytes}
use Rattle.tf_text.specs.declared.counted.Counted.{Counted}
use Rattle.tf_text.specs.Counted.{inner_of, has_failed, use_of}
use Rattle.tf_text.specs.Input.{IsTextOf}
use Rattle.tf_text.specs.declared.answer.fault.AnswerFault.{AnswerFault}
use Rattle.tf_text.specs.declared.answer.fault.AnswerFault.TheVariants as answers
use Rattle.tf_engine.specs.declared.fault.RunFault.{RunFault}
use Rattle.tf_engine.specs.CaseParts.{IsAsked}
use Rattle.tf_engine.specs.Devices.{LeavesInstance, LeavesReader, LeavesBoth}
use Rattle.tf_engine.specs.Faults.{Refused, ByCycle, ByAnswer, Stop, stop_of, end_of}
use Rattle.tf_engine.specs.Parts.{StopsBy, StopsReading}
use Rattle.tf_engine.specs.RequestData.{RequestData}
use Rattle.tf_engine.specs.Solvers.{IsNamedCycle}
use Rattle.tf_plan.specs.Order.{IsFeasible, IsProblemCycle}
use Rattle.tf_bound_text.specs.BoundSheetData.{BoundSheetData}
use Rattle.tf_bounding.specs.RunBounding.{problem_task_for}
use Rattle.tf_evaluate.specs.declared.evaluation.Detail.{Detail}
use Rattle.tf_evaluate.specs.declared.step.Step.{Step}
use Rattle.tf_evaluate.specs.Evaluating.{IsOptimum}
use Rattle.tf_assess.specs.Assessing.{IsWeighed}
use Rattle.tf_assess.specs.declared.offered.Weighed.{Weighed}
use Rattle.tf_assess.specs.Measures.{PosedData}
use Rattle.tf_orders.specs.declared.case_read.OrderCase.{OrderCase}
use Rattle.tf_orders.specs.declared.case_read.Posed.{Posed}
use Rattle.tf_orders.specs.declared.case_read.Posed.TheVariants.{Solved, Unsolved}
use Rattle.tf_orders.specs.declared.measure.Measure.{Measure}
use Rattle.tf_orders.specs.declared.measure.Measure.TheVariants.{Optimum, Bound}
use Rattle.tf_orders.specs.declared.run_orders.OrderForm.{OrderForm}
use Rattle.tf_orders.specs.Measuring.{IsUnordered, is_by_optimum, measured_problem}
use Rattle.tf_orders.specs.Pieces.{pieces_of}
use Rattle.tf_orders.specs.OrderText.{IsMalformed}
use Rattle.tf_orders.specs.RunOrders.{IsRefusedInstance, IsTooLong, HasOrderReaderFailed}

-- the request and the text mean the task
abbrev pub Means : {A : Type 0} → Bool → RequestData → List ℕ → Posed A → Type 0
Means bounded request text (Solved asked) =
    IsTrue (is_by_optimum bounded request.problem) × IsAsked request text asked
Means bounded request text (Unsolved task) =
    IsFalse (is_by_optimum bounded request.problem) × (problem_task_for request text ≡ Ok task)

-- A part that reads an instance gives what its text means, which is all bytes of the reader up to its
-- end where they are known, or the one refusal.
pub record ReadsPosed {A T : Type 0} (bounded : Bool) (request : RequestData)
    (remaining : T → Option (List ℕ)) (old new : Counted T) (result : Result (Posed A) (RunFault A)) : Type 0 where
  pub text : List ℕ
  pub is_all : IsTextOf (remaining (inner_of old)) text
  pub given : MatchResult result (Means bounded request text)
      (λ e. StopsReading (IsRefusedInstance bounded request text) (has_failed new ≡ true)
      (stop_of e))
  pub reader : LeavesInstance (measured_problem bounded request.problem) remaining old new
      (end_of result)

-- the text is too long, and refused as such
abbrev pub IsLong : List ℕ → Refused → Type 0
IsLong text refused = (refused ≡ ByAnswer answers.TooLong) × (most_bytes < length text)

-- A part that reads orders gives their text, which is all bytes of the reader up to its end where they
-- are known.
pub record ReadsOrders {A T : Type 0} (remaining : T → Option (List ℕ)) (old new : Counted T)
    (result : Result (Vec ℕ A) (RunFault A)) : Type 0 where
  pub text : List ℕ
  pub is_all : IsTextOf (remaining (inner_of old)) text
  pub given : MatchResult result (λ v. (v.items ≡ text) × (length v.items ≤ most_bytes))
      (λ e. StopsReading (IsLong text) (has_failed new ≡ true) (stop_of e))
  pub reader : LeavesReader remaining old new (end_of result)

-- the same of both texts
pub record IsOrderCase {A : Type 0} (bounded : Bool) (request : RequestData)
    (text orders : List ℕ) (case : OrderCase A) : Type 0 where
  pub means : Means bounded request text case.posed
  pub text_is : case.text.items ≡ orders
  pub short : length orders ≤ most_bytes

-- the refusal is that of the instance, or of orders that are too long
abbrev pub IsRefusedCase : Bool → RequestData → List ℕ → List ℕ → Refused → Type 0
IsRefusedCase bounded request text orders refused =
    IsRefusedInstance bounded request text refused ⊎ IsTooLong bounded request text orders refused

pub record ReadsOrderCase {A T U : Type 0} (bounded : Bool) (request : RequestData)
    (remaining : T → Option (List ℕ)) (old new : Counted T) (giving : U → Option (List ℕ)) (before after : Counted U)
    (result : Result (OrderCase A) (RunFault A)) : Type 0 where
  pub text : List ℕ
  pub is_all : IsTextOf (remaining (inner_of old)) text
  pub orders_text : List ℕ
  pub is_whole : IsTextOf (giving (inner_of before)) orders_text
  pub given : MatchResult result (IsOrderCase bounded request text orders_text)
      (λ e. StopsReading (IsRefusedCase bounded request text orders_text)
      (HasOrderReaderFailed bounded request text (use_of remaining old new)
      (use_of giving before after)) (stop_of e))
  pub readers : LeavesBoth (measured_problem bounded request.problem) remaining old new giving
      before after (end_of result)

-- ---- the measure

-- this is the task's optimum, or a lower bound of it, with the instance that gives the other objectives
abbrev pub Measures : {A : Type 0} → Detail → Option BoundSheetData → Option PosedData → Posed A
    → Measure A → Type 0
Measures {A = A} detail offer others (Solved asked) m =
    (best : ℤ) × (steps : Vec Step A) × (m ≡ Optimum asked.problem asked.task best steps others)
    × IsOptimum detail asked.task best steps.items
Measures {A = A} detail offer others (Unsolved task) m =
    (weighed : Weighed A) × (m ≡ Bound task weighed others) × IsFeasible task
    × IsWeighed task offer weighed

-- the same with another instance
abbrev pub with_others : {A : Type 0} → Measure A → Option PosedData → Measure A
with_others (Optimum problem task best steps _) others = Optimum problem task best steps others
with_others (Bound task weighed _) others = Bound task weighed others

-- the arcs of the task have a cycle, and the jobs are the one that is named
abbrev pub IsCycleOf : {A : Type 0} → Posed A → List ℕ → Type 0
IsCycleOf (Solved asked) jobs = IsNamedCycle asked.task jobs
IsCycleOf (Unsolved task) jobs = IsProblemCycle task jobs

-- why a task has no measure
abbrev pub IsUnmeasured : {A : Type 0} → Posed A → Stop → Type 0
IsUnmeasured posed =
    StopsBy (λ refused. (jobs : List ℕ) × (refused ≡ ByCycle jobs) × IsCycleOf posed jobs)

-- ---- the orders

-- why orders or pieces are not rated: a line is malformed
abbrev pub IsUnrated : {A : Type 0} → OrderForm → Measure A → List ℕ → Stop → Type 0
IsUnrated form m text =
    StopsBy (λ refused. (fault : AnswerFault) × (refused ≡ ByAnswer fault)
    × IsMalformed form m text fault)

-- why a text says no pieces: it is malformed
abbrev pub IsUndrawn : List ℕ → Stop → Type 0
IsUndrawn text =
    StopsBy (λ refused. (fault : AnswerFault) × (refused ≡ ByAnswer fault)
    × (pieces_of (kept_lines 1 (lines text)) ≡ Err fault))

-- why nothing is written of the line of this number: it says no order, and the others are not gone on
-- with
abbrev pub IsWithoutRow : {A : Type 0} → Bool → Measure A → ℕ → List ℕ → Stop → Type 0
IsWithoutRow goes_on m number text =
    StopsBy (λ refused. (goes_on ≡ false) × (refused ≡ ByAnswer (answers.BadLine number))
    × IsUnordered m text)
