-- What reading an instance and an answer to it gives.
use Rattle.std.specs.Prelude.{◌≡◌, ℕ, List, Option, Result, Ok, Err, MatchResult, true}
use Rattle.tf_text.specs.declared.counted.Counted.{Counted}
use Rattle.tf_text.specs.Counted.{inner_of, has_failed, use_of}
use Rattle.tf_text.specs.Input.{IsTextOf}
use Rattle.tf_text.specs.AnswerReading.{answer_in}
use Rattle.tf_engine.specs.declared.case.Asked.{Asked}
use Rattle.tf_engine.specs.declared.case.Case.{Case}
use Rattle.tf_engine.specs.declared.fault.RunFault.{RunFault}
use Rattle.tf_engine.specs.Faults.{stop_of, end_of}
use Rattle.tf_engine.specs.RequestData.{RequestData}
use Rattle.tf_engine.specs.Refusal.{problem_for, task_for}
use Rattle.tf_engine.specs.Parts.{StopsReading}
use Rattle.tf_engine.specs.Checking.{IsRefusedCheck, HasReaderFailed}
use Rattle.tf_engine.specs.Devices.{LeavesInstance, LeavesBoth}

-- the request and the text mean the task of its problem
pub record IsAsked {A : Type 0} (request : RequestData) (text : List ℕ) (asked : Asked A) : Type 0
  where
    pub problem : problem_for request.problem ≡ Ok asked.problem
    pub meant : task_for request text ≡ Ok asked.task

-- A part that reads an instance gives what its text means, which is all bytes of the reader up to its
-- end where they are known, or the one refusal.
pub record ReadsAsked {A T : Type 0} (request : RequestData) (remaining : T → Option (List ℕ))
    (old new : Counted T) (result : Result (Asked A) (RunFault A)) : Type 0 where
  pub text : List ℕ
  pub is_all : IsTextOf (remaining (inner_of old)) text
  pub given : MatchResult result (IsAsked request text)
      (λ e. StopsReading (λ refused. task_for request text ≡ Err refused) (has_failed new ≡ true)
      (stop_of e))
  pub reader : LeavesInstance (problem_for request.problem) remaining old new (end_of result)

-- the same of an instance text and an answer text, which says the sheet
pub record IsCase {A : Type 0} (request : RequestData) (instance answer : List ℕ) (case : Case A) : Type
    0 where
  pub asked : IsAsked request instance case.asked
  pub said : answer_in answer ≡ Ok case.sheet

-- A part that reads an instance and an answer gives what both texts say, which are all bytes of the
-- readers up to their ends where they are known, or the one refusal of a check.
pub record ReadsCase {A T U : Type 0} (request : RequestData) (remaining : T → Option (List ℕ))
    (old new : Counted T) (giving : U → Option (List ℕ)) (before after : Counted U)
    (result : Result (Case A) (RunFault A)) : Type 0 where
  pub text : List ℕ
  pub is_all : IsTextOf (remaining (inner_of old)) text
  pub answer_text : List ℕ
  pub is_whole_answer : IsTextOf (giving (inner_of before)) answer_text
  pub given : MatchResult result (IsCase request text answer_text)
      (λ e. StopsReading (IsRefusedCheck request text answer_text)
      (HasReaderFailed request text (use_of remaining old new) (use_of giving before after))
      (stop_of e))
  pub readers : LeavesBoth (problem_for request.problem) remaining old new giving before after
      (end_of result)
