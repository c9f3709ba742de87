-- What a run that plans a problem leaves behind.
use Rattle.std.specs.Prelude.{◌≡◌, ◌⊎◌, ℕ, ℤ, true, List, length, Ok, Err}
use Rattle.tf_text.specs.Counted.{DeviceUse}
use Rattle.tf_text.specs.Input.{IsTextOf}
use Rattle.tf_posed.specs.ProblemData.{ProblemData}
use Rattle.tf_posed.specs.ProblemCost.{IsProblemBest}
use Rattle.tf_schedule.specs.declared.piece.Piece.{Piece}
use Rattle.tf_schedule.specs.Drawing.{drawing}
use Rattle.tf_engine.specs.Faults.{Refused}
use Rattle.tf_engine.specs.RequestData.{RequestData}
use Rattle.tf_engine.specs.Runs.{Run}
use Rattle.tf_search.specs.declared.strongest.Found.{Found}
use Rattle.tf_search.specs.Strongest.{IsFound}
use Rattle.tf_bounding.specs.RunBounding.{problem_task_for}
use Rattle.tf_plan.specs.Plan.{IsPlan}
use Rattle.tf_planning.specs.Planning.{IsUnplannable}
use Rattle.tf_planning.specs.PlanText.{plan_text, standing_of}
use Rattle.tf_planning.specs.declared.writing.Planned.{Planned}
use Rattle.tf_planning.specs.declared.writing.Planned.TheVariants.{Optimal}

-- `out` is the text of a schedule that fits the task and costs the value, beside a lower bound of
-- every timetable that fits; where both are equal no timetable costs less
pub record IsPlanOf (A : Type 0) (k : ProblemData) (planned : Planned) (out : List ℕ) : Type 0 where
  pub pieces : List Piece
  pub value : ℤ
  pub found : Found A
  pub plan : IsPlan k pieces value
  pub bound : IsFound k found
  pub written : out ≡ plan_text k (length k.jobs) pieces value found
  pub standing : planned ≡ standing_of value found
  pub best : planned ≡ Optimal → IsProblemBest k (drawing k.machines pieces) value

-- the same for the task that the request and the text mean
pub record Plans (A : Type 0) (request : RequestData) (text : List ℕ) (planned : Planned)
    (out : List ℕ) : Type 0 where
  pub task : ProblemData
  pub meant : problem_task_for request text ≡ Ok task
  pub is : IsPlanOf A task planned out

-- the refusal is the one of the definitions, or nothing else is refused and the task has no plan
abbrev pub IsRefusedPlan : RequestData → List ℕ → Refused → Type 0
IsRefusedPlan request text refused =
    (problem_task_for request text ≡ Err refused)
    ⊎ ((task : ProblemData) × (problem_task_for request text ≡ Ok task)
    × IsUnplannable task refused)

-- a run over an instance, which writes a plan and returns whether it is optimal
abbrev pub plan_run : Type 0 → RequestData → DeviceUse → Run (List ℕ) Planned
plan_run A request reader = record {
  Over = λ text. IsTextOf reader.before text;
  Says = λ text planned out. Plans A request text planned out;
  IsRefused = λ text refused. IsRefusedPlan request text refused;
  ReaderFailed = λ text. reader.failed ≡ true;
}
