-- What a run that bounds a problem leaves behind.
use Rattle.std.specs.Prelude.{◌≡◌, ℕ, ◌⊎◌, true, List, length, Option, Result, Ok, Err, MatchResult, if◌then◌else◌}
use Rattle.tf_model.specs.Outcome.{◌>>=◌}
use Rattle.tf_model.specs.declared.problem.Problem.{Problem}
use Rattle.tf_model.specs.declared.prepare.Refusal.TheVariants.{NoSolver, TotalTooLarge}
use Rattle.tf_notation.specs.Reading.{notation}
use Rattle.tf_text.specs.declared.counted.Counted.{Counted}
use Rattle.tf_text.specs.Counted.{DeviceUse, inner_of, has_failed}
use Rattle.tf_text.specs.Input.{IsTextOf}
use Rattle.tf_posed.specs.ProblemData.{ProblemData, is_covered}
use Rattle.tf_bound.specs.Sized.{IsSized}
use Rattle.tf_engine.specs.declared.fault.RunFault.{RunFault}
use Rattle.tf_engine.specs.Faults.{Refused, ByNotation, ByTask, stop_of, end_of}
use Rattle.tf_engine.specs.Parts.{StopsReading}
use Rattle.tf_engine.specs.Refusal.{refused_by}
use Rattle.tf_engine.specs.RequestData.{RequestData}
use Rattle.tf_engine.specs.Runs.{Run}
use Rattle.tf_engine.specs.Devices.{LeavesInstance}
use Rattle.tf_search.specs.declared.strongest.Found.{Found}
use Rattle.tf_search.specs.Strongest.{IsFound}
use Rattle.tf_plan.specs.Order.{IsFeasible}
use Rattle.tf_prepare.specs.Preparing.{prepared_in}
use Rattle.tf_bounding.specs.BoundText.{bound_text}
use Rattle.tf_bounding.specs.Feasible.{IsCyclicTask}
use Rattle.tf_bounding.specs.ShopTimes.{timed_said}

-- the problem, of which some kind of certificate bounds the tasks
abbrev pub problem_in : List ℕ → Result Problem Refused
problem_in text =
    refused_by ByNotation (notation text)
    >>= λ problem. if is_covered problem then Ok problem else Err (ByTask NoSolver)

-- the task of a problem and a text, or the first refusal but that of totals
abbrev pub problem_task_in : RequestData → Problem → List ℕ → Result ProblemData Refused
problem_task_in request problem text =
    timed_said request.form problem.env text
    >>= λ timed. refused_by ByTask (prepared_in timed problem request.machines)

-- the task of a request and a text: notation, problem, the text's first fault, and then the first
-- reason why the instance is no task of the problem
abbrev pub problem_task_for : RequestData → List ℕ → Result ProblemData Refused
problem_task_for request text =
    problem_in request.problem >>= λ problem. problem_task_in request problem text

-- `out` is the text of a certificate and its value for the task that the request and the text mean;
-- some timetable fits the task, and none that does costs less
pub record Bounds {A : Type 0} (request : RequestData) (text out : List ℕ) (found : Found A)
    : Type 0 where
  pub task : ProblemData
  pub meant : problem_task_for request text ≡ Ok task
  pub feasible : IsFeasible task
  pub is : IsFound task found
  pub written : out ≡ bound_text task (length task.jobs) found.value found.certificate

-- the refusal is the one of the definitions, or nothing else is refused and a number or a total of
-- the task is beyond the limits
abbrev pub IsRefusedBound : RequestData → List ℕ → Refused → Type 0
IsRefusedBound request text refused =
    (problem_task_for request text ≡ Err refused)
    ⊎ ((refused ≡ ByTask TotalTooLarge)
    × ((task : ProblemData) × (problem_task_for request text ≡ Ok task) × (¬ (IsSized task))))

-- or the arcs of the task form the cycle that is named
abbrev pub IsRefusedBounding : RequestData → List ℕ → Refused → Type 0
IsRefusedBounding request text refused =
    IsRefusedBound request text refused
    ⊎ ((task : ProblemData) × (problem_task_for request text ≡ Ok task)
    × IsCyclicTask task refused)

-- A part that reads an instance gives the task that its text means, which is all bytes of the reader
-- up to its end where they are known, or the one refusal.
pub record ReadsProblemTask {A T : Type 0} (request : RequestData) (remaining : T → Option (List ℕ))
    (old new : Counted T) (result : Result ProblemData (RunFault A)) : Type 0 where
  pub text : List ℕ
  pub is_all : IsTextOf (remaining (inner_of old)) text
  pub given : MatchResult result (λ k. problem_task_for request text ≡ Ok k)
      (λ e. StopsReading (IsRefusedBound request text) (has_failed new ≡ true) (stop_of e))
  pub reader : LeavesInstance (problem_in request.problem) remaining old new (end_of result)

-- a run over an instance, which writes a bound
abbrev pub bound_run : Type 0 → RequestData → DeviceUse → Run (List ℕ) (Unit {0})
bound_run A request reader = record {
  Over = λ text. IsTextOf reader.before text;
  Says = λ text _ out. (found : Found A) × Bounds request text out found;
  IsRefused = λ text refused. IsRefusedBounding request text refused;
  ReaderFailed = λ text. reader.failed ≡ true;
}
