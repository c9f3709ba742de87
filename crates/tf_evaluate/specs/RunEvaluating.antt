-- What an evaluation of an answer text leaves behind.
use Rattle.std.specs.Prelude.{◌≡◌, ℕ, ◌⊎◌, List, Ok, IsOk}
use Rattle.tf_model.specs.declared.problem.Problem.{Problem}
use Rattle.tf_model.specs.SchedulingTask.{SchedulingTask}
use Rattle.tf_text.specs.Counted.{DeviceUse}
use Rattle.tf_text.specs.Input.{IsTextOf}
use Rattle.tf_text.specs.AnswerText.{SheetData}
use Rattle.tf_text.specs.AnswerReading.{answer_in}
use Rattle.tf_engine.specs.Faults.{Refused, ByCycle}
use Rattle.tf_engine.specs.RequestData.{RequestData}
use Rattle.tf_engine.specs.Refusal.{problem_for, task_for}
use Rattle.tf_engine.specs.Runs.{Run}
use Rattle.tf_engine.specs.Headline.{IsCyclic}
use Rattle.tf_engine.specs.Checking.{IsRefusedCheck, HasReaderFailed}
use Rattle.tf_evaluate.specs.declared.evaluation.Standing.{Standing}
use Rattle.tf_evaluate.specs.declared.evaluation.Detail.{Detail}
use Rattle.tf_evaluate.specs.EvaluationData.{EvaluationData, OptimumData, standing_of}
use Rattle.tf_evaluate.specs.Evaluating.{IsEvaluation, HasStanding, HasGap, EndsInBound}
use Rattle.tf_evaluate.specs.EvaluationText.{evaluation_text, optimum_lines}

-- the request and the instance text mean a task, the answer text says a sheet, and this is its
-- evaluation
pub record IsEvaluated (detail : Detail) (request : RequestData) (instance answer : List ℕ)
    (e : EvaluationData OptimumData) : Type 0 where
  pub problem : Problem
  pub asked : problem_for request.problem ≡ Ok problem
  pub task : SchedulingTask
  pub meant : task_for request instance ≡ Ok task
  pub sheet : SheetData
  pub said : answer_in answer ≡ Ok sheet
  pub evaluation : IsEvaluation detail problem task sheet e
  pub standing : HasStanding task sheet (standing_of e.fit e.reference.best)
  pub gap_is : HasGap e.fit e.reference.best
  pub ends : EndsInBound detail e.reference.bound e.reference.steps

-- the refusal is one of a check, or the answer text says a sheet, and these jobs are the cycle of the
-- task's arcs that is named
abbrev pub IsRefusedEvaluation : RequestData → List ℕ → List ℕ → Refused → Type 0
IsRefusedEvaluation request instance answer refused =
    IsRefusedCheck request instance answer refused
    ⊎ ((jobs : List ℕ) × (refused ≡ ByCycle jobs) × IsOk (answer_in answer)
    × IsCyclic request instance jobs)

-- a run over an instance and an answer, which writes an evaluation and returns what the schedule
-- comes to
abbrev pub evaluation_run : Detail → RequestData → DeviceUse → DeviceUse
    → Run (List ℕ × List ℕ) Standing
evaluation_run detail request instance answer = record {
  Over = λ texts. IsTextOf instance.before texts.0 × IsTextOf answer.before texts.1;
  Says = λ texts standing out. (e : EvaluationData OptimumData)
      × IsEvaluated detail request texts.0 texts.1 e
      × (standing ≡ standing_of e.fit e.reference.best) × (out ≡ evaluation_text optimum_lines e);
  IsRefused = λ texts refused. IsRefusedEvaluation request texts.0 texts.1 refused;
  ReaderFailed = λ texts. HasReaderFailed request texts.0 instance answer;
}
