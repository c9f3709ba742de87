-- How a schedule stands to a task.
use Rattle.std.specs.Prelude.{◌≡◌, ◌≢◌, ℤ, List, Result, Ok, Err}
use Rattle.tf_model.specs.Cost.{cost}
use Rattle.tf_model.specs.Feasible.{Fits}
use Rattle.tf_model.specs.SchedulingTask.{SchedulingTask}
use Rattle.tf_schedule.specs.declared.fit.Misfit.{Misfit}
use Rattle.tf_schedule.specs.declared.fit.Misfit.TheVariants.{OutOfMemory}
use Rattle.tf_schedule.specs.declared.piece.Piece.{Piece}
use Rattle.tf_schedule.specs.Drawing.{Draws, drawing}
use Rattle.tf_schedule.specs.Misfit.{HasFirstMisfit}

-- the pieces draw rows that fit the task and cost the value
pub record FitsAt (k : SchedulingTask) (ps : List Piece) (value : ℤ) : Type 0 where
  pub draws : Draws k.machines ps (drawing k.machines ps)
  pub fits : Fits k (drawing k.machines ps)
  pub costs : cost k (drawing k.machines ps) ≡ value

-- they do, or this is the first misfit, and memory did not run out
abbrev pub HasFit : SchedulingTask → List Piece → Result ℤ Misfit → Type 0
HasFit k ps (Ok value) = FitsAt k ps value
HasFit k ps (Err misfit) = HasFirstMisfit k ps misfit × (misfit ≢ OutOfMemory)
