-- What a check of an answer text leaves behind.
use Rattle.std.specs.Prelude.{◌≡◌, ℕ, ◌⊎◌, true, false, List, Some, Result, Ok, Err, IsOk, MatchResult, length}
use Rattle.tf_model.specs.SchedulingTask.{SchedulingTask}
use Rattle.tf_model.specs.ClassTable.{class_of}
use Rattle.tf_check.specs.Accepted.{IsAccepted, IsBestAnswer}
use Rattle.tf_check.specs.Verdict.{HasReason}
use Rattle.tf_text.specs.Counted.{DeviceUse}
use Rattle.tf_text.specs.Input.{IsTextOf}
use Rattle.tf_text.specs.AnswerText.{SheetData}
use Rattle.tf_text.specs.AnswerReading.{answer_in}
use Rattle.tf_text.specs.declared.answer.fault.AnswerFault.{AnswerFault}
use Rattle.tf_engine.specs.declared.fault.RunFault.{RunFault}
use Rattle.tf_engine.specs.Faults.{Refused, ByAnswer, stop_of, is_refusal}
use Rattle.tf_engine.specs.declared.run_check.Checked.{Checked}
use Rattle.tf_engine.specs.declared.run_check.Checked.TheVariants.{Accepted, OtherTask, Rejected}
use Rattle.tf_engine.specs.RequestData.{RequestData}
use Rattle.tf_engine.specs.Refusal.{task_for}
use Rattle.tf_engine.specs.Runs.{Run}
use Rattle.tf_engine.specs.VerdictLine.{verdict_line}

-- the sheet's problem is of the task's class, and its sizes are the task's
pub record IsFor (k : SchedulingTask) (sheet : SheetData) : Type 0 where
  pub class : class_of sheet.problem ≡ Some k.class
  pub jobs : sheet.jobs ≡ length k.jobs
  pub machines : sheet.machines ≡ k.machines

-- what is said of a sheet. An answer that is accepted is best
abbrev pub IsVerdict : SchedulingTask → SheetData → Checked → Type 0
IsVerdict k sheet Accepted = IsFor k sheet × IsAccepted k sheet.answer × IsBestAnswer k sheet.answer
IsVerdict k sheet OtherTask = ¬ (IsFor k sheet)
IsVerdict k sheet (Rejected reason) = IsFor k sheet × HasReason k sheet.answer reason

-- the request and the instance text mean a task, the answer text says a sheet, and this is the
-- verdict on it
pub record IsChecked (request : RequestData) (instance answer : List ℕ) (checked : Checked) : Type 0
  where
    pub task : SchedulingTask
    pub meant : task_for request instance ≡ Ok task
    pub sheet : SheetData
    pub said : answer_in answer ≡ Ok sheet
    pub verdict : IsVerdict task sheet checked

-- the refusal is the fault of the answer text
abbrev pub IsOfAnswer : List ℕ → Refused → Type 0
IsOfAnswer text refused = (fault : AnswerFault) × (refused ≡ ByAnswer fault)
    × (answer_in text ≡ Err fault)

-- the refusal is the one of the definitions, or there is a task and the answer text is at fault
abbrev pub IsRefusedCheck : RequestData → List ℕ → List ℕ → Refused → Type 0
IsRefusedCheck request instance answer refused =
    (task_for request instance ≡ Err refused)
    ⊎ (IsOk (task_for request instance) × IsOfAnswer answer refused)

-- the instance's reader failed, or there is a task and the answer's reader failed
abbrev pub HasReaderFailed : RequestData → List ℕ → DeviceUse → DeviceUse → Type 0
HasReaderFailed request text instance answer =
    (instance.failed ≡ true) ⊎ (IsOk (task_for request text) × (answer.failed ≡ true))

-- a run over an instance and an answer, which writes its verdict in one line
abbrev pub check_run : RequestData → DeviceUse → DeviceUse → Run (List ℕ × List ℕ) Checked
check_run request instance answer = record {
  Over = λ texts. IsTextOf instance.before texts.0 × IsTextOf answer.before texts.1;
  Says = λ texts checked out. IsChecked request texts.0 texts.1 checked
      × (out ≡ verdict_line checked);
  IsRefused = λ texts refused. IsRefusedCheck request texts.0 texts.1 refused;
  ReaderFailed = λ texts. HasReaderFailed request texts.0 instance answer;
}

-- the verdict is that the answer is best, or the run stopped for a device's or memory's sake
abbrev pub AcceptsUnlessStopped : {A : Type 0} → Result Checked (RunFault A) → Type 0
AcceptsUnlessStopped result =
    MatchResult result (λ checked. checked ≡ Accepted) (λ e. is_refusal (stop_of e) ≡ false)
