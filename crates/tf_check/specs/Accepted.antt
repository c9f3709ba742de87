-- When an answer is accepted, and when it is best.
use Rattle.std.specs.Prelude.{◌≡◌, ℤ, ◌≤ℤ◌, Ok}
use Rattle.std.specs.List.{All}
use Rattle.tf_model.specs.SchedulingTask.{SchedulingTask}
use Rattle.tf_model.specs.Timetable.{Timetable}
use Rattle.tf_model.specs.Feasible.{Fits}
use Rattle.tf_model.specs.Cost.{cost, IsBest}
use Rattle.tf_schedule.specs.Schedule.{IsPiece}
use Rattle.tf_schedule.specs.Drawing.{Draws}
use Rattle.tf_check.specs.Claim.{AnswerData}
use Rattle.tf_check.specs.Bound.{bound_by}

-- the pieces draw a timetable that fits the task, the value is its cost, and the certificate's
-- bound is no less
pub record IsAccepted (k : SchedulingTask) (a : AnswerData) : Type 0 where
  pub rows : Timetable
  pub pieces : All IsPiece a.pieces
  pub draws : Draws k.machines a.pieces rows
  pub fits : Fits k rows
  pub value : cost k rows ≡ a.value
  pub bound : ℤ
  pub bounded : bound_by a.certificate k ≡ Ok bound
  pub enough : a.value ≤ℤ bound

-- the pieces draw a timetable that fits the task and costs the value, and none that fits costs less
pub record IsBestAnswer (k : SchedulingTask) (a : AnswerData) : Type 0 where
  pub rows : Timetable
  pub pieces : All IsPiece a.pieces
  pub draws : Draws k.machines a.pieces rows
  pub best : IsBest k rows a.value
