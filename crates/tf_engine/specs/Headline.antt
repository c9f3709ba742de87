-- What a run leaves behind.
use Rattle.std.specs.Prelude.{◌≡◌, ℕ, ◌≤◌, ◌⊎◌, true, List, Ok, Err, length}
use Rattle.tf_model.specs.SchedulingTask.{SchedulingTask}
use Rattle.tf_text.specs.Counted.{DeviceUse}
use Rattle.tf_text.specs.Input.{IsTextOf}
use Rattle.tf_text.specs.AnswerText.{SheetData, answer_text}
use Rattle.tf_engine.specs.Faults.{Refused, ByCycle}
use Rattle.tf_engine.specs.RequestData.{RequestData}
use Rattle.tf_check.specs.Accepted.{IsAccepted, IsBestAnswer}
use Rattle.tf_words.specs.Words.{lines, kept_lines}
use Rattle.tf_text.specs.AnswerReading.{sheet_of}
use Rattle.tf_model.specs.Limit.{most_bytes}
use Rattle.tf_engine.specs.declared.run_check.Checked.TheVariants.{Accepted}
use Rattle.tf_engine.specs.Checking.{IsChecked}
use Rattle.tf_engine.specs.Refusal.{problem_for, task_for}
use Rattle.tf_engine.specs.Rules.{IsByRule}
use Rattle.tf_engine.specs.Runs.{Run}
use Rattle.tf_single.specs.NotSolved.{IsNamedCycle}

-- The request and the text mean a task. `out` is the text, in the request's layout, of a sheet with
-- the request's problem, the task's sizes, and an answer that is best.
pub record Answers (request : RequestData) (text out : List ℕ) : Type 0 where
  pub task : SchedulingTask
  pub meant : task_for request text ≡ Ok task
  pub sheet : SheetData
  pub problem : problem_for request.problem ≡ Ok sheet.problem
  pub jobs : sheet.jobs ≡ length task.jobs
  pub machines : sheet.machines ≡ task.machines
  pub best : IsBestAnswer task sheet.answer
  pub written : out ≡ answer_text request.layout sheet

-- What else is known of it: the certificate shows that the answer is best, which is the answer of the
-- class's rule; and the lines of the text say the sheet again. Where the text is not too long, a
-- check of it for the same request and instance accepts it.
pub record ShowsIt {request : RequestData} {text out : List ℕ} (its : Answers request text out)
    : Type 0 where
  pub accepted : IsAccepted its.task its.sheet.answer
  pub rule : IsByRule its.task its.sheet.answer
  pub readable : sheet_of (kept_lines 1 (lines out)) ≡ Ok its.sheet
  pub again : length out ≤ most_bytes → IsChecked request text out Accepted

-- the text answers, and shows it
abbrev pub IsAnswered : RequestData → List ℕ → List ℕ → Type 0
IsAnswered request text out = (its : Answers request text out) × ShowsIt its

-- the request and the text mean a task, and the jobs are the cycle of its arcs that is named
pub record IsCyclic (request : RequestData) (text : List ℕ) (jobs : List ℕ) : Type 0 where
  pub task : SchedulingTask
  pub meant : task_for request text ≡ Ok task
  pub cycle : IsNamedCycle task jobs

-- the refusal is the one of the definitions, or a cycle
abbrev pub IsRefusedRun : RequestData → List ℕ → Refused → Type 0
IsRefusedRun request text refused =
    (task_for request text ≡ Err refused)
    ⊎ ((jobs : List ℕ) × (refused ≡ ByCycle jobs) × IsCyclic request text jobs)

-- a run over an instance, which writes an answer
abbrev pub solve_run : RequestData → DeviceUse → Run (List ℕ) (Unit {0})
solve_run request reader = record {
  Over = λ text. IsTextOf reader.before text;
  Says = λ text _ out. IsAnswered request text out;
  IsRefused = λ text refused. IsRefusedRun request text refused;
  ReaderFailed = λ text. reader.failed ≡ true;
}
