-- How the pieces of an answer stand to a task.
use Rattle.std.specs.Prelude.{◌≡◌, ◌≢◌, ℤ, List, length, Option, Some, None, Result, Ok, Err}
use Rattle.std.specs.List.Sorted.{IsPermutation}
use Rattle.tf_model.specs.Cost.{cost}
use Rattle.tf_model.specs.SchedulingTask.{SchedulingTask}
use Rattle.tf_model.specs.Timetable.{Timetable}
use Rattle.tf_schedule.specs.declared.fit.Misfit.{Misfit as MisfitOf}
use Rattle.tf_schedule.specs.declared.fit.Misfit.TheVariants.{OutOfMemory}
use Rattle.tf_schedule.specs.declared.piece.Piece.{Piece}
use Rattle.tf_schedule.specs.Lanes.{LanesData, HasLanes}
use Rattle.tf_schedule.specs.Misfit.{HasFirstMisfit}
use Rattle.tf_schedule.specs.Schedule.{IsSchedule, HasFirstFault}
use Rattle.tf_check.specs.Verdict.{DrawsFitting}
use Rattle.tf_check.specs.declared.judgement.Fit.{Fit}
use Rattle.tf_check.specs.declared.judgement.Fit.TheVariants.{Fits, NoSchedule, Misfit}

-- the pieces draw rows that fit and cost this, or this is what is wrong with them first
abbrev pub IsJudged : SchedulingTask → List Piece → Fit → Type 0
IsJudged k ps (Fits value) = (rows : Timetable) × DrawsFitting k ps rows × (cost k rows ≡ value)
IsJudged k ps (NoSchedule fault) = HasFirstFault ps fault
IsJudged k ps (Misfit misfit) = (qs : List Piece) × IsPermutation ps qs × IsSchedule qs
    × HasFirstMisfit k qs misfit × (misfit ≢ OutOfMemory)

-- where the pieces make a schedule, the table has the extents of the jobs by these pieces
abbrev pub HasTable : SchedulingTask → List Piece → Fit → Option LanesData → Type 0
HasTable k ps (NoSchedule fault) lanes = lanes ≡ None
HasTable k ps _ lanes = (qs : List Piece) × IsPermutation ps qs × IsSchedule qs
    × (l : LanesData) × (lanes ≡ Some l) × HasLanes (length k.jobs) qs l

-- what a schedule comes to, that is there
abbrev pub fit_from : Result ℤ MisfitOf → Fit
fit_from (Ok value) = Fits value
fit_from (Err misfit) = Misfit misfit
