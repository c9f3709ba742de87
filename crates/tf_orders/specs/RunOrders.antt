-- What a run over an instance and orders leaves behind.
use Rattle.std.specs.Prelude.{◌≡◌, ℕ, ◌<◌, ◌⊎◌, Bool, true, List, length, Option, is_some, Ok, Err, IsTrue, IsFalse, IsOk}
use Rattle.tf_model.specs.Limit.{most_bytes}
use Rattle.tf_text.specs.Counted.{DeviceUse}
use Rattle.tf_text.specs.Input.{IsTextOf}
use Rattle.tf_text.specs.declared.answer.fault.AnswerFault.{AnswerFault}
use Rattle.tf_text.specs.declared.answer.fault.AnswerFault.TheVariants as answers
use Rattle.tf_engine.specs.Faults.{Refused, ByCycle, ByAnswer}
use Rattle.tf_engine.specs.Headline.{IsCyclic}
use Rattle.tf_engine.specs.RequestData.{RequestData}
use Rattle.tf_engine.specs.Refusal.{task_for}
use Rattle.tf_engine.specs.Runs.{Run}
use Rattle.tf_posed.specs.ProblemData.{ProblemData}
use Rattle.tf_bound_text.specs.BoundSheetData.{BoundSheetData}
use Rattle.tf_bounding.specs.Feasible.{IsCyclicTask}
use Rattle.tf_bounding.specs.RunBounding.{problem_task_for, IsRefusedBound}
use Rattle.tf_assess.specs.Measures.{PosedData}
use Rattle.tf_orders.specs.declared.measure.Measure.{Measure}
use Rattle.tf_orders.specs.declared.run_orders.OrderForm.{OrderForm}
use Rattle.tf_orders.specs.declared.run_orders.OrdersRated.{OrdersRated}
use Rattle.tf_orders.specs.Measuring.{IsMeasure, detail_of, is_by_optimum, others_of}
use Rattle.tf_orders.specs.OrderText.{AreRated, IsMalformed}

-- the request and the text mean a task: of a class, or with a bound, or of another problem, one that has
-- lower bounds
pub record IsPosed (bounded : Bool) (request : RequestData) (text : List ℕ) : Type 0 where
  pub solved : IsTrue (is_by_optimum bounded request.problem) → IsOk (task_for request text)
  pub unsolved : IsFalse (is_by_optimum bounded request.problem)
      → IsOk (problem_task_for request text)

-- the refusal is that of the problem line or of the instance
pub record IsRefusedInstance (bounded : Bool) (request : RequestData) (text : List ℕ)
    (refused : Refused) : Type 0 where
  pub solved : IsTrue (is_by_optimum bounded request.problem) → task_for request text ≡ Err refused
  pub unsolved : IsFalse (is_by_optimum bounded request.problem)
      → IsRefusedBound request text refused

-- the orders' text has more bytes than a text may have
pub record IsTooLong (bounded : Bool) (request : RequestData) (text orders : List ℕ)
    (refused : Refused) : Type 0 where
  pub posed : IsPosed bounded request text
  pub is : refused ≡ ByAnswer answers.TooLong
  pub long : most_bytes < length orders

-- what is written says how the schedules of the orders stand, with their values by the other objectives
-- where an instance gives those
pub record IsRated {A : Type 0} (form : OrderForm) (offer : Option BoundSheetData)
    (request : RequestData) (others : Option PosedData) (text orders out : List ℕ)
    (rated : OrdersRated) (m : Measure A) : Type 0 where
  pub measure : IsMeasure (detail_of form) offer request text m
  pub others_are : others_of m ≡ others
  pub rated_is : AreRated form m orders out rated

-- a line of the orders or pieces is malformed
pub record IsBadLine {A : Type 0} (form : OrderForm) (offer : Option BoundSheetData)
    (request : RequestData) (text orders : List ℕ) (refused : Refused) (m : Measure A) : Type 0 where
  pub measure : IsMeasure (detail_of form) offer request text m
  pub fault : AnswerFault
  pub is : refused ≡ ByAnswer fault
  pub malformed : IsMalformed form m orders fault

-- The refusals in their order: of the instance, of orders that are too long, the cycle of the arcs
-- that is named, and the first malformed line.
abbrev pub IsRefusedOrders : Type 0 → OrderForm → Option BoundSheetData → RequestData → List ℕ
    → List ℕ → Refused → Type 0
IsRefusedOrders A form offer request text orders refused =
    IsRefusedInstance (is_some offer) request text refused
    ⊎ IsTooLong (is_some offer) request text orders refused
    ⊎ ((jobs : List ℕ) × (refused ≡ ByCycle jobs) × IsCyclic request text jobs)
    ⊎ ((task : ProblemData) × (problem_task_for request text ≡ Ok task)
    × IsCyclicTask task refused)
    ⊎ ((m : Measure A) × IsBadLine form offer request text orders refused m)

-- the instance's reader failed, or there is a task and the orders' reader failed
abbrev pub HasOrderReaderFailed : Bool → RequestData → List ℕ → DeviceUse → DeviceUse → Type 0
HasOrderReaderFailed bounded request text instance orders =
    (instance.failed ≡ true) ⊎ (IsPosed bounded request text × (orders.failed ≡ true))

-- a run over an instance and orders, which writes how good the schedules are
abbrev pub orders_run : Type 0 → OrderForm → Option BoundSheetData → RequestData → Option PosedData
    → DeviceUse → DeviceUse → Run (List ℕ × List ℕ) OrdersRated
orders_run A form offer request others instance orders = record {
  Over = λ texts. IsTextOf instance.before texts.0 × IsTextOf orders.before texts.1;
  Says = λ texts rated out. (m : Measure A)
      × IsRated form offer request others texts.0 texts.1 out rated m;
  IsRefused = λ texts refused. IsRefusedOrders A form offer request texts.0 texts.1 refused;
  ReaderFailed = λ texts. HasOrderReaderFailed (is_some offer) request texts.0 instance orders;
}
