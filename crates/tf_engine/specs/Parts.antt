-- What the parts of the runs give.
use Rattle.std.specs.Prelude.{◌≡◌, ℕ, ◌+◌, ◌≤◌, ◌⊎◌, true, false, List, length, Option, Result, Ok, Err, MatchResult, OnOk, IfErr}
use Rattle.std.specs.Io.KnownBytes.{IsAtEnd}
use Rattle.tf_model.specs.InstanceData.{InstanceData}
use Rattle.tf_model.specs.Limit.{most_bytes}
use Rattle.tf_model.specs.Outcome.{◌>>=◌}
use Rattle.tf_model.specs.Prepare.{prepared}
use Rattle.tf_model.specs.SchedulingTask.{SchedulingTask}
use Rattle.tf_model.specs.declared.problem.Problem.{Problem}
use Rattle.tf_text.specs.declared.counted.Counted.{Counted}
use Rattle.tf_text.specs.Counted.{inner_of, pulled_of, has_failed, ConsumesAtMost}
use Rattle.tf_text.specs.Input.{IsTextOf}
use Rattle.tf_words.specs.Words.{lines, kept_lines}
use Rattle.tf_text.specs.AnswerText.{SheetData, answer_text}
use Rattle.tf_text.specs.AnswerReading.{answer_in, sheet_of}
use Rattle.tf_check.specs.Accepted.{IsAccepted, IsBestAnswer}
use Rattle.tf_engine.specs.Rules.{IsByRule}
use Rattle.tf_engine.specs.declared.fault.RunFault.{RunFault}
use Rattle.tf_engine.specs.Faults.{Refused, ByText, ByTask, Stop, Refuses, Fails, Wants, is_refusal, is_of_whole, stop_of, end_of}
use Rattle.tf_engine.specs.Devices.{LeavesReader}
use Rattle.tf_engine.specs.FormData.{FormData}
use Rattle.tf_engine.specs.Refusal.{refused_by, instance_in, problem_for, task_for}
use Rattle.tf_engine.specs.RequestData.{RequestData}
use Rattle.tf_engine.specs.Checking.{IsOfAnswer}

-- why a part stops that reads and writes nothing
abbrev pub StopsBy : (Refused → Type 0) → Stop → Type 0
StopsBy IsRefused (Refuses refused) = IsRefused refused
StopsBy IsRefused Fails = ⊥
StopsBy IsRefused Wants = Unit {0}

-- the same of a part that reads
abbrev pub StopsReading : (Refused → Type 0) → Type 0 → Stop → Type 0
StopsReading IsRefused reader_failed (Refuses refused) = IsRefused refused
StopsReading IsRefused reader_failed Fails = reader_failed
StopsReading IsRefused reader_failed Wants = Unit {0}

-- exactly the problem or the refusal that is wanted
abbrev pub GivesProblem : {A : Type 0} → Result Problem (RunFault A) → Result Problem Refused
    → Type 0
GivesProblem result wanted =
    MatchResult result (λ problem. wanted ≡ Ok problem)
    (λ e. (refused : Refused) × (stop_of e ≡ Refuses refused) × (wanted ≡ Err refused))

-- A part that reads gives what `says` says of the text, which is all bytes of the reader up to its
-- end where they are known. `old` and `new` are the reader before and after.
pub record ReadsTo {X A T : Type 0} (says : List ℕ → Result X Refused)
    (remaining : T → Option (List ℕ)) (old new : Counted T) (result : Result X (RunFault A)) : Type 0
  where
    pub text : List ℕ
    pub is_all : IsTextOf (remaining (inner_of old)) text
    pub given : MatchResult result (λ x. says text ≡ Ok x)
        (λ e. StopsReading (λ refused. says text ≡ Err refused) (has_failed new ≡ true) (stop_of e))
    pub unfailed : OnOk result (has_failed new ≡ false)
    pub unhidden : IfErr result (λ e. is_refusal (stop_of e) ≡ true → has_failed new ≡ false)
    -- memory was wanting before the reader was called, or the reader did not fail
    pub wanting : IfErr result
        (λ e. stop_of e ≡ Wants → (new ≡ old) ⊎ (has_failed new ≡ false))
    pub ended : is_of_whole result ≡ true → IsAtEnd (remaining (inner_of new))
    pub pulled : ConsumesAtMost (most_bytes + 1) (remaining (inner_of old))
        (remaining (inner_of new))
    pub counted : pulled_of new ≤ pulled_of old + (most_bytes + 1)

-- the instance that a text of this form holds, as a part of a run says it
abbrev pub instance_said : FormData → List ℕ → Result InstanceData Refused
instance_said form text = refused_by ByText (instance_in form text)

-- the task of a problem and an instance, in the same way
abbrev pub prepared_said : Problem → Option ℕ → InstanceData → Result SchedulingTask Refused
prepared_said problem machines instance = refused_by ByTask (prepared instance problem machines)

-- the task of a problem and the instance that a text of this form holds
abbrev pub task_said : FormData → Problem → Option ℕ → List ℕ → Result SchedulingTask Refused
task_said form problem machines text = instance_said form text >>= prepared_said problem machines

-- a sheet with the request's problem, the task's sizes, and a best answer, whose certificate shows
-- that it is best, and which is that of the class's rule
pub record IsSheetFor (request : RequestData) (k : SchedulingTask) (sheet : SheetData) : Type 0
  where
    pub problem : problem_for request.problem ≡ Ok sheet.problem
    pub jobs : sheet.jobs ≡ length k.jobs
    pub machines : sheet.machines ≡ k.machines
    pub accepted : IsAccepted k sheet.answer
    pub best : IsBestAnswer k sheet.answer
    pub rule : IsByRule k sheet.answer
    -- the lines of its text say it again
    pub readable : sheet_of (kept_lines 1 (lines (answer_text request.layout sheet))) ≡ Ok sheet

-- the request and the text mean a task, and the sheet answers it
pub record IsSolved (request : RequestData) (text : List ℕ) (sheet : SheetData) : Type 0 where
  pub task : SchedulingTask
  pub meant : task_for request text ≡ Ok task
  pub solved : IsSheetFor request task sheet

-- A part that reads an answer text gives the sheet that it says, or the fault of the text, which is
-- all bytes of the reader up to its end where they are known.
pub record ReadsSheet {A T : Type 0} (remaining : T → Option (List ℕ)) (old new : Counted T)
    (result : Result SheetData (RunFault A)) : Type 0 where
  pub text : List ℕ
  pub is_all : IsTextOf (remaining (inner_of old)) text
  pub given : MatchResult result (λ sheet. answer_in text ≡ Ok sheet)
      (λ e. StopsReading (IsOfAnswer text) (has_failed new ≡ true) (stop_of e))
  pub reader : LeavesReader remaining old new (end_of result)
