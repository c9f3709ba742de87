-- How a command ends that assesses an answer beside the bound of a text.
use Rattle.std.specs.Prelude.{◌≡◌, ◌⊎◌, ℕ, List, Option, Some, Ok}
use Rattle.std.specs.Io.KnownBytes.{Keeps}
use Rattle.tf_text.specs.Counted.{DeviceUse}
use Rattle.tf_text.specs.Input.{IsTextOf}
use Rattle.tf_engine.specs.RequestData.{RequestData}
use Rattle.tf_engine.specs.Runs.{IsOutcome}
use Rattle.tf_bound_text.specs.BoundSheetData.{BoundSheetData}
use Rattle.tf_bound_text.specs.BoundReading.{bound_in}
use Rattle.tf_assess.specs.BoundRead.{IsUnread}
use Rattle.tf_assess.specs.declared.bound_read.BoundReadFault.{BoundReadFault}
use Rattle.tf_assess.specs.RunAssessing.{assessment_run}
use Rattle.tf_command.specs.Ending.{Ends}
use Rattle.tf_command.specs.BoundLine.{bound_fault_line, status_of_bound}
use Rattle.tf_command.specs.Statuses.{status_of_standing}

-- the text of the bound, which is all bytes of its reader where they are known, was not read, and
-- nothing was written
pub record EndsUnread (bound writer : DeviceUse) (says : List ℕ → Type 0) (status : ℕ) : Type 0
  where
    pub text : List ℕ
    pub is_all : IsTextOf bound.before text
    pub fault : BoundReadFault
    pub unread : IsUnread bound text fault
    pub unwritten : Keeps writer.before writer.after
    pub ends : status ≡ status_of_bound fault
    pub said : says (bound_fault_line fault)

-- the answer was assessed beside what is offered
abbrev pub EndsAssessed : Type 0 → Option BoundSheetData → RequestData → DeviceUse → DeviceUse
    → DeviceUse → (List ℕ → Type 0) → ℕ → Type 0
EndsAssessed A offer request instance answer writer says status =
    Ends (IsOutcome {A = A} (assessment_run A offer request instance answer) writer)
    status_of_standing says status

-- the text of the bound says a sheet, beside which the answer was assessed
pub record EndsBeside (A : Type 0) (request : RequestData) (instance answer bound writer : DeviceUse)
    (says : List ℕ → Type 0) (status : ℕ) : Type 0 where
  pub text : List ℕ
  pub is_all : IsTextOf bound.before text
  pub sheet : BoundSheetData
  pub offered : bound_in text ≡ Ok sheet
  pub assessed : EndsAssessed A (Some sheet) request instance answer writer says status

abbrev pub EndsAssessing : Type 0 → RequestData → DeviceUse → DeviceUse → DeviceUse → DeviceUse
    → (List ℕ → Type 0) → ℕ → Type 0
EndsAssessing A request instance answer bound writer says status =
    EndsUnread bound writer says status
    ⊎ EndsBeside A request instance answer bound writer says status
