-- How a command ends that prints a plan.
use Rattle.std.specs.Prelude.{◌≡◌, ℕ, List, Result, Ok, Err, IsTrue, IsFalse}
use Rattle.tf_text.specs.Counted.{DeviceUse}
use Rattle.tf_engine.specs.declared.fault.RunFault.{RunFault}
use Rattle.tf_engine.specs.RequestData.{RequestData}
use Rattle.tf_engine.specs.Headline.{solve_run}
use Rattle.tf_engine.specs.Runs.{IsOutcome}
use Rattle.tf_assess.specs.RunRating.{is_solved}
use Rattle.tf_planning.specs.declared.writing.Planned.{Planned}
use Rattle.tf_planning.specs.declared.writing.Planned.TheVariants.{Optimal}
use Rattle.tf_planning.specs.RunPlanning.{plan_run}
use Rattle.tf_command.specs.Ending.{Ends}
use Rattle.tf_command.specs.Statuses.{status_of_planned}

-- an answer of a solver is optimal
abbrev pub as_planned : {A : Type 0} → Result (Unit {0}) (RunFault A) → Result Planned (RunFault A)
as_planned (Ok _) = Ok Optimal
as_planned (Err fault) = Err fault

-- a problem that has a solver is solved, and every other one is planned
pub record IsPlannedRun {A : Type 0} (request : RequestData) (instance writer : DeviceUse)
    (result : Result Planned (RunFault A)) : Type 0 where
  pub solved : IsTrue (is_solved request.problem)
      → (run : Result (Unit {0}) (RunFault A))
      × IsOutcome (solve_run request instance) writer run
      × (result ≡ as_planned run)
  pub unsolved : IsFalse (is_solved request.problem)
      → IsOutcome (plan_run A request instance) writer result

abbrev pub EndsPlanning : Type 0 → RequestData → DeviceUse → DeviceUse → (List ℕ → Type 0) → ℕ
    → Type 0
EndsPlanning A request instance writer says status =
    Ends (IsPlannedRun {A = A} request instance writer) status_of_planned says status
