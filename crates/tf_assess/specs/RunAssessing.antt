-- What an assessment of an answer text leaves behind.
use Rattle.std.specs.Prelude.{◌≡◌, ℕ, ◌⊎◌, true, List, Option, Result, Ok, IsOk, MatchResult}
use Rattle.tf_posed.specs.ProblemData.{ProblemData}
use Rattle.tf_text.specs.declared.counted.Counted.{Counted}
use Rattle.tf_text.specs.Counted.{DeviceUse, inner_of, use_of}
use Rattle.tf_text.specs.Input.{IsTextOf}
use Rattle.tf_text.specs.AnswerText.{SheetData}
use Rattle.tf_text.specs.AnswerReading.{answer_in}
use Rattle.tf_engine.specs.declared.fault.RunFault.{RunFault}
use Rattle.tf_engine.specs.Faults.{Refused, stop_of, end_of}
use Rattle.tf_engine.specs.Parts.{StopsReading}
use Rattle.tf_engine.specs.Checking.{IsOfAnswer}
use Rattle.tf_engine.specs.RequestData.{RequestData}
use Rattle.tf_engine.specs.Runs.{Run}
use Rattle.tf_engine.specs.Devices.{LeavesBoth}
use Rattle.tf_plan.specs.Order.{IsFeasible}
use Rattle.tf_bounding.specs.Feasible.{IsCyclicTask}
use Rattle.tf_bounding.specs.RunBounding.{problem_in, problem_task_for, IsRefusedBound}
use Rattle.tf_bound_text.specs.BoundSheetData.{BoundSheetData}
use Rattle.tf_evaluate.specs.declared.evaluation.Standing.{Standing}
use Rattle.tf_evaluate.specs.EvaluationData.{EvaluationData}
use Rattle.tf_evaluate.specs.EvaluationText.{evaluation_text}
use Rattle.tf_assess.specs.declared.offered.Weighed.{Weighed}
use Rattle.tf_assess.specs.declared.case_read.ProblemCase.{ProblemCase}
use Rattle.tf_assess.specs.Assessing.{assessed_of, IsAssessment}
use Rattle.tf_assess.specs.AssessmentText.{weighed_lines}

-- the request and the instance text mean a task, the answer text says a sheet, and this is how it
-- stands to the task, which some timetable fits, beside the bound that is offered, if any is
pub record IsAssessed {A : Type 0} (offer : Option BoundSheetData) (request : RequestData)
    (instance answer out : List ℕ) (e : EvaluationData (Weighed A)) : Type 0 where
  pub task : ProblemData
  pub meant : problem_task_for request instance ≡ Ok task
  pub feasible : IsFeasible task
  pub sheet : SheetData
  pub said : answer_in answer ≡ Ok sheet
  pub is : IsAssessment task offer sheet e
  pub written : out ≡ evaluation_text weighed_lines e

-- the refusal is one of a bound, or there is a task and the answer text is at fault
abbrev pub IsRefusedAssessment : RequestData → List ℕ → List ℕ → Refused → Type 0
IsRefusedAssessment request instance answer refused =
    IsRefusedBound request instance refused
    ⊎ (IsOk (problem_task_for request instance) × IsOfAnswer answer refused)

-- or both texts are read, and the arcs of the task form the cycle that is named
abbrev pub IsRefusedAssessing : RequestData → List ℕ → List ℕ → Refused → Type 0
IsRefusedAssessing request instance answer refused =
    IsRefusedAssessment request instance answer refused
    ⊎ (IsOk (answer_in answer) × ((task : ProblemData)
    × (problem_task_for request instance ≡ Ok task) × IsCyclicTask task refused))

-- the instance's reader failed, or there is a task and the answer's reader failed
abbrev pub HasProblemReaderFailed : RequestData → List ℕ → DeviceUse → DeviceUse → Type 0
HasProblemReaderFailed request text instance answer =
    (instance.failed ≡ true) ⊎ (IsOk (problem_task_for request text) × (answer.failed ≡ true))

-- a run over an instance and an answer, which writes an assessment and returns what the schedule
-- comes to
abbrev pub assessment_run : Type 0 → Option BoundSheetData → RequestData → DeviceUse → DeviceUse
    → Run (List ℕ × List ℕ) Standing
assessment_run A offer request instance answer = record {
  Over = λ texts. IsTextOf instance.before texts.0 × IsTextOf answer.before texts.1;
  Says = λ texts standing out. (e : EvaluationData (Weighed A))
      × IsAssessed offer request texts.0 texts.1 out e
      × (standing ≡ assessed_of e.fit e.reference.bound.value);
  IsRefused = λ texts refused. IsRefusedAssessing request texts.0 texts.1 refused;
  ReaderFailed = λ texts. HasProblemReaderFailed request texts.0 instance answer;
}

-- ---- reading

-- what both texts say
pub record IsProblemCase {A : Type 0} (request : RequestData) (instance answer : List ℕ)
    (case : ProblemCase A) : Type 0 where
  pub meant : problem_task_for request instance ≡ Ok case.task
  pub said : answer_in answer ≡ Ok case.sheet

-- A part that reads an instance and an answer gives what both texts say, which are all bytes of the
-- readers up to their ends where they are known, or the one refusal.
pub record ReadsProblemCase {A T U : Type 0} (request : RequestData)
    (remaining : T → Option (List ℕ)) (old new : Counted T) (giving : U → Option (List ℕ))
    (before after : Counted U) (result : Result (ProblemCase A) (RunFault A)) : Type 0 where
  pub text : List ℕ
  pub is_all : IsTextOf (remaining (inner_of old)) text
  pub answer_text : List ℕ
  pub is_whole_answer : IsTextOf (giving (inner_of before)) answer_text
  pub given : MatchResult result (IsProblemCase request text answer_text)
      (λ e. StopsReading (IsRefusedAssessment request text answer_text)
      (HasProblemReaderFailed request text (use_of remaining old new)
      (use_of giving before after)) (stop_of e))
  pub readers : LeavesBoth (problem_in request.problem) remaining old new giving before after
      (end_of result)
