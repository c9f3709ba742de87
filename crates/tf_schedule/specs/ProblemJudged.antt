-- How a schedule stands to the task of a problem.
use Rattle.std.specs.Prelude.{Bool, List, Option, None, Some, IsTrue, IsFalse}
use Rattle.std.specs.List.{All}
use Rattle.tf_model.specs.Timetable.{Timetable}
use Rattle.tf_posed.specs.ProblemData.{ProblemData}
use Rattle.tf_posed.specs.FitsProblem.{FitsProblem, IsInOneOrder}
use Rattle.tf_schedule.specs.declared.piece.Piece.{Piece}
use Rattle.tf_schedule.specs.Drawing.{Draws, drawing}
use Rattle.tf_schedule.specs.declared.misfit.ProblemMisfit.{ProblemMisfit}
use Rattle.tf_schedule.specs.ProblemMisfit.{IsKnownTo, HasFirstMisfit}

-- the pieces draw rows that fit the task
pub record FitsBy (k : ProblemData) (ps : List Piece) : Type 0 where
  pub known : All (IsKnownTo k) ps
  pub draws : Draws k.machines ps (drawing k.machines ps)
  pub fits : FitsProblem k (drawing k.machines ps)

-- The test says whether there is one order in which the jobs pass all machines, where the problem
-- asks for it.
pub record TellsOrder (k : ProblemData) (rows : Timetable) (test : Bool) : Type 0 where
  pub holds : IsTrue test → IsTrue k.problem.prmu → IsInOneOrder k rows
  pub fails : IsFalse test → IsTrue k.problem.prmu × (¬ (IsInOneOrder k rows))

-- they do, or this is the first misfit
abbrev pub IsJudgedBy : ProblemData → List Piece → Option ProblemMisfit → Type 0
IsJudgedBy k ps None = FitsBy k ps
IsJudgedBy k ps (Some misfit) = HasFirstMisfit k ps misfit
