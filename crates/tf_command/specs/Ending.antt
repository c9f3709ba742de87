-- How a command ends: after a run of what was asked for, with the status of what the run gave, and
-- with its line on standard error. A is the allocator that the run took its memory from.
use Rattle.std.specs.Prelude.{◌≡◌, ℕ, Bool, false, List, [], ◌∷◌, ◌++◌, codes, Option, Result, Ok, Err}
use Rattle.tf_text.specs.Counted.{DeviceUse}
use Rattle.tf_engine.specs.declared.fault.RunFault.{RunFault}
use Rattle.tf_engine.specs.RequestData.{RequestData}
use Rattle.tf_engine.specs.Headline.{solve_run}
use Rattle.tf_engine.specs.Checking.{check_run}
use Rattle.tf_text.specs.AnswerText.{SheetData}
use Rattle.tf_engine.specs.Drawing.{drawing_run, IsChart}
use Rattle.tf_engine.specs.Runs.{IsOutcome}
use Rattle.tf_engine.specs.FormData.{FormData}
use Rattle.tf_dated.specs.Dated.{IsDatedRunOf}
use Rattle.tf_picture.specs.Picture.{IsPicture}
use Rattle.tf_dated.specs.declared.run_dated.Pictured.{Pictured}
use Rattle.tf_dated.specs.declared.run_dated.Pictured.TheVariants.{Drawn, OtherTask}
use Rattle.tf_picture.specs.declared.view.View.{View}
use Rattle.tf_evaluate.specs.declared.evaluation.Detail.{Detail}
use Rattle.tf_assess.specs.RunRating.{IsRatingOf}
use Rattle.tf_assess.specs.Measures.{PosedData}
use Rattle.tf_orders.specs.declared.run_orders.OrderForm.{OrderForm}
use Rattle.tf_orders.specs.RunOrders.{orders_run}
use Rattle.tf_bound_text.specs.BoundSheetData.{BoundSheetData}
use Rattle.tf_bounding.specs.RunBounding.{bound_run}
use Rattle.tf_trace.specs.RunTracing.{trace_run}
use Rattle.tf_asked.specs.declared.options.Drawing.{Drawing}
use Rattle.tf_asked.specs.declared.options.Drawing.TheVariants.{Chart, Picture}
use Rattle.tf_text.specs.declared.counted.Counted.{Counted}
use Rattle.tf_command.specs.Statuses.{status_of, status_of_text, status_of_check, status_of_standing, status_of_rated}
use Rattle.tf_command.specs.FaultLine.{fault_line, refused_line}
use Rattle.tf_command.specs.Wrote.{Wrote}

-- after a run: the status of what it gave, and otherwise that of its fault
abbrev pub status_after : {X A : Type 0} → (X → ℕ) → Result X (RunFault A) → ℕ
status_after exit_status (Ok x) = exit_status x
status_after exit_status (Err fault) = status_of fault

-- after a picture with the dates of an instance: refused where the answer is for other jobs
abbrev pub status_of_picturing : {A : Type 0} → Result Pictured (RunFault A) → ℕ
status_of_picturing (Ok Drawn) = 0
status_of_picturing (Ok OtherTask) = 2
status_of_picturing (Err fault) = status_of fault

-- its line on standard error
abbrev pub line_of_picturing : {A : Type 0} → Result Pictured (RunFault A) → List ℕ
line_of_picturing (Ok Drawn) = []
line_of_picturing (Ok OtherTask) = refused_line (codes "OtherTask" ∷ [])
line_of_picturing (Err fault) = fault_line fault

-- the line on standard error: that of the fault, where there is one
abbrev pub line_of : {X A : Type 0} → Result X (RunFault A) → List ℕ
line_of (Ok x) = []
line_of (Err fault) = fault_line fault

-- standard error gets this line, and then perhaps an explanation. Where nothing is to be explained,
-- it gets the line and nothing else.
pub record SaysLine {E : Type 0} (contents : E → Option (List ℕ)) (explain : Bool)
    (old new : Counted E) (line : List ℕ) : Type 0 where
  pub explanation : List ℕ
  pub wrote : Wrote contents old new (line ++ explanation)
  pub alone : explain ≡ false → explanation ≡ []

-- a run that is asked for ended, with the status of what it gave and the line of its fault
pub record Ends {X A : Type 0} (IsAsked : Result X (RunFault A) → Type 0) (exit_status : X → ℕ)
    (says : List ℕ → Type 0) (status : ℕ) : Type 0 where
  pub run : Result X (RunFault A)
  pub outcome : IsAsked run
  pub ends : status ≡ status_after exit_status run
  pub said : says (line_of run)

abbrev pub EndsSolving : Type 0 → RequestData → DeviceUse → DeviceUse → (List ℕ → Type 0) → ℕ
    → Type 0
EndsSolving A request instance writer says status =
    Ends (IsOutcome {A = A} (solve_run request instance) writer) status_of_text says status

abbrev pub EndsBounding : Type 0 → RequestData → DeviceUse → DeviceUse → (List ℕ → Type 0) → ℕ
    → Type 0
EndsBounding A request instance writer says status =
    Ends (IsOutcome {A = A} (bound_run A request instance) writer) status_of_text says status

abbrev pub EndsTracing : Type 0 → RequestData → DeviceUse → DeviceUse → (List ℕ → Type 0) → ℕ
    → Type 0
EndsTracing A request instance writer says status =
    Ends (IsOutcome {A = A} (trace_run request instance) writer) status_of_text says status

abbrev pub EndsChecking : Type 0 → RequestData → DeviceUse → DeviceUse → DeviceUse
    → (List ℕ → Type 0) → ℕ → Type 0
EndsChecking A request instance answer writer says status =
    Ends (IsOutcome {A = A} (check_run request instance answer) writer) status_of_check says status

-- what such a drawing is
abbrev pub drawn_as : Drawing → SheetData → List ℕ → Type 0
drawn_as (Chart columns) = IsChart columns
drawn_as (Picture view) = IsPicture view

abbrev pub EndsDrawing : Type 0 → Drawing → DeviceUse → DeviceUse → (List ℕ → Type 0) → ℕ → Type 0
EndsDrawing A drawing answer writer says status =
    Ends (IsOutcome {A = A} (drawing_run (drawn_as drawing) answer) writer) status_of_text says status

abbrev pub EndsEvaluating : Type 0 → Detail → RequestData → DeviceUse → DeviceUse → DeviceUse
    → (List ℕ → Type 0) → ℕ → Type 0
EndsEvaluating A detail request instance answer writer says status =
    Ends (IsRatingOf {A = A} detail request instance answer writer) status_of_standing says status

abbrev pub EndsRating : Type 0 → OrderForm → Option BoundSheetData → RequestData
    → Option PosedData → DeviceUse → DeviceUse → DeviceUse → (List ℕ → Type 0) → ℕ → Type 0
EndsRating A form offer request others instance orders writer says status =
    Ends (IsOutcome {A = A} (orders_run A form offer request others instance orders) writer)
    status_of_rated says status

-- a picture may be refused by what the run gave, which has a line of its own
pub record EndsPicturing (A : Type 0) (view : View) (form : FormData)
    (instance answer writer : DeviceUse) (says : List ℕ → Type 0) (status : ℕ) : Type 0 where
  pub run : Result Pictured (RunFault A)
  pub outcome : IsDatedRunOf view form instance answer writer run
  pub ends : status ≡ status_of_picturing run
  pub said : says (line_of_picturing run)
