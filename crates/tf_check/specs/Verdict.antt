-- Why an answer is rejected.
use Rattle.std.specs.Prelude.{◌≡◌, ◌≢◌, ℤ, ◌<ℤ◌, List, Ok, Err}
use Rattle.std.specs.List.{All}
use Rattle.std.specs.List.Sorted.{IsPermutation}
use Rattle.tf_model.specs.SchedulingTask.{SchedulingTask}
use Rattle.tf_model.specs.Timetable.{Timetable}
use Rattle.tf_model.specs.Feasible.{Fits}
use Rattle.tf_model.specs.Cost.{cost}
use Rattle.tf_schedule.specs.declared.piece.Piece.{Piece}
use Rattle.tf_schedule.specs.declared.fit.Misfit.TheVariants.{OutOfMemory}
use Rattle.tf_schedule.specs.Schedule.{IsPiece, IsSchedule, HasFirstFault}
use Rattle.tf_schedule.specs.Drawing.{Draws}
use Rattle.tf_schedule.specs.Misfit.{HasFirstMisfit}
use Rattle.tf_check.specs.Claim.{AnswerData}
use Rattle.tf_check.specs.Bound.{bound_by}
use Rattle.tf_check.specs.Accepted.{IsAccepted}
use Rattle.tf_check.specs.declared.verdict.Reason.{Reason}
use Rattle.tf_check.specs.declared.verdict.Reason.TheVariants.{Pieces, Misfit, WrongValue, Bound, BoundBelowValue}
use Rattle.tf_check.specs.declared.verdict.Verdict.{Verdict}
use Rattle.tf_check.specs.declared.verdict.Verdict.TheVariants.{Accepted, Rejected}

-- the pieces draw these rows, and the rows fit the task
pub record DrawsFitting (k : SchedulingTask) (ps : List Piece) (rows : Timetable) : Type 0 where
  pub pieces : All IsPiece ps
  pub draws : Draws k.machines ps rows
  pub fits : Fits k rows

-- the pieces draw rows that fit the task and cost the value
pub record IsFeasible (k : SchedulingTask) (a : AnswerData) : Type 0 where
  pub rows : Timetable
  pub fitting : DrawsFitting k a.pieces rows
  pub value : cost k rows ≡ a.value

-- this is what is wrong with the answer, and nothing that is judged before it
abbrev pub HasReason : SchedulingTask → AnswerData → Reason → Type 0
HasReason k a (Pieces fault) = HasFirstFault a.pieces fault
HasReason k a (Misfit misfit) = (ps : List Piece) × IsPermutation a.pieces ps × IsSchedule ps
    × HasFirstMisfit k ps misfit × (misfit ≢ OutOfMemory)
HasReason k a WrongValue = (rows : Timetable) × DrawsFitting k a.pieces rows
    × (cost k rows ≢ a.value)
HasReason k a (Bound fault) = IsFeasible k a × (bound_by a.certificate k ≡ Err fault)
HasReason k a BoundBelowValue = IsFeasible k a × (bound : ℤ) × (bound_by a.certificate k ≡ Ok bound)
    × (bound <ℤ a.value)

-- the verdict on the answer
abbrev pub HasVerdict : SchedulingTask → AnswerData → Verdict → Type 0
HasVerdict k a Accepted = IsAccepted k a
HasVerdict k a (Rejected reason) = HasReason k a reason
