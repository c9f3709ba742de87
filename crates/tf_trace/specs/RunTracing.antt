-- What a run that shows how a task is solved leaves behind.
use Rattle.std.specs.Prelude.{◌≡◌, ℕ, ℤ, true, List, [], ◌∷◌, ◌++◌, Ok, codes}
use Rattle.std.specs.Fmt.{signed_decimal}
use Rattle.tf_model.specs.SchedulingTask.{SchedulingTask}
use Rattle.tf_check.specs.Accepted.{IsAccepted, IsBestAnswer}
use Rattle.tf_check.specs.Claim.{AnswerData}
use Rattle.tf_text.specs.AnswerText.{line_text}
use Rattle.tf_text.specs.Counted.{DeviceUse}
use Rattle.tf_text.specs.Input.{IsTextOf}
use Rattle.tf_engine.specs.Faults.{Refused, ByCycle}
use Rattle.tf_engine.specs.Headline.{IsRefusedRun}
use Rattle.tf_engine.specs.Refusal.{task_for}
use Rattle.tf_engine.specs.RequestData.{RequestData}
use Rattle.tf_engine.specs.Runs.{Run}
use Rattle.tf_engine.specs.Solvers.{IsNamedCycle}

-- some words, and behind them the line of the value
abbrev pub EndsInValue : ℤ → List ℕ → Type 0
EndsInValue value out =
    (words : List ℕ) × (out ≡ words ++ line_text (codes "value" ∷ signed_decimal value ∷ []))

-- `out` ends with the line of the optimal value of the task that the request and the text mean
pub record Traces (request : RequestData) (text out : List ℕ) : Type 0 where
  pub task : SchedulingTask
  pub meant : task_for request text ≡ Ok task
  pub answer : AnswerData
  pub accepted : IsAccepted task answer
  pub best : IsBestAnswer task answer
  pub written : EndsInValue answer.value out

-- the jobs are the cycle of the task's arcs that is named
abbrev pub IsOfCycle : SchedulingTask → Refused → Type 0
IsOfCycle k refused = (jobs : List ℕ) × (refused ≡ ByCycle jobs) × IsNamedCycle k jobs

-- a run over an instance, which writes the working
abbrev pub trace_run : RequestData → DeviceUse → Run (List ℕ) (Unit {0})
trace_run request reader = record {
  Over = λ text. IsTextOf reader.before text;
  Says = λ text _ out. Traces request text out;
  IsRefused = λ text refused. IsRefusedRun request text refused;
  ReaderFailed = λ text. reader.failed ≡ true;
}
