-- Horn's rule for one machine with release dates: earliest due date first, with preemption.
use Rattle.std.specs.Prelude.{◌≡◌, List, length}
use Rattle.std.specs.List.{All, AllAdjacentBelow}
use Rattle.tf_model.specs.Feasible.{Fits}
use Rattle.tf_model.specs.SchedulingTask.{SchedulingTask}
use Rattle.tf_schedule.specs.declared.piece.Piece.{Piece}
use Rattle.tf_schedule.specs.Drawing.{drawing}
use Rattle.tf_schedule.specs.Schedule.{IsSchedule}
use Rattle.tf_check.specs.Claim.{Claim}
use Rattle.tf_single.specs.EarliestDue.{RunsEarliestDue, IsLastWindowClaim}

-- the second piece is of the same job, and starts when the first one stops
abbrev pub IsContinued : Piece → Piece → Type 0
IsContinued p q = (p.job ≡ q.job) × (p.stop ≡ q.start)

-- pieces on machine 1 in order of time, each as long as its job goes on
pub record AreRuns (pieces : List Piece) : Type 0 where
  pub schedule : IsSchedule pieces
  pub machine : All (λ p. p.machine ≡ 1) pieces
  pub whole : AllAdjacentBelow (λ p q. ¬ (IsContinued p q)) pieces (length pieces)

-- the timetable fits the task, and at each time the released unfinished job of earliest due date
-- runs, of smallest number among equals; the pieces are its runs, and the certificate is the window
-- of the smallest job of greatest lateness
pub record RunsByHorn (k : SchedulingTask) (pieces : List Piece) (claim : Claim) : Type 0 where
  pub runs : AreRuns pieces
  pub fits : Fits k (drawing k.machines pieces)
  pub earliest : RunsEarliestDue k (drawing k.machines pieces)
  pub certificate : IsLastWindowClaim k (drawing k.machines pieces) claim
