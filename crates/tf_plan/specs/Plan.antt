-- A plan: a schedule that fits the task of a problem, and what it costs.
use Rattle.std.specs.Prelude.{◌≡◌, ◌^◌, ◌≤ℤ◌, pos, ℤ, List}
use Rattle.std.specs.List.{All}
use Rattle.tf_model.specs.Timetable.{Timetable}
use Rattle.tf_posed.specs.ProblemData.{ProblemData}
use Rattle.tf_posed.specs.FitsProblem.{FitsProblem}
use Rattle.tf_posed.specs.ProblemCost.{problem_cost}
use Rattle.tf_schedule.specs.declared.piece.Piece.{Piece}
use Rattle.tf_schedule.specs.Drawing.{drawing}
use Rattle.tf_schedule.specs.Schedule.{IsPiece, NoneTwice}
use Rattle.tf_schedule.specs.ProblemJudged.{FitsBy}
use Rattle.tf_schedule.specs.ProblemMisfit.{IsKnownTo}

-- the pieces fit the task and cost the value
pub record IsPlan (k : ProblemData) (ps : List Piece) (value : ℤ) : Type 0 where
  pub fits : FitsBy k ps
  pub cost : problem_cost k (drawing k.machines ps) ≡ value

-- the pieces, in any order, are those of a schedule that fits
pub record FitsAsLaid (k : ProblemData) (ps : List Piece) : Type 0 where
  pub known : All (IsKnownTo k) ps
  pub pieces : All IsPiece ps
  pub none_twice : NoneTwice ps
  pub fits : FitsProblem k (drawing k.machines ps)

-- pieces have no plan: where they fit, they cost too much
abbrev pub IsUnplanned : ProblemData → List Piece → Type 0
IsUnplanned k ps =
    FitsAsLaid k ps → pos (2 ^ 127) ≤ℤ problem_cost k (drawing k.machines ps)

-- there is a timetable that fits, and it costs 2^127 or more
pub record IsTooDear (k : ProblemData) : Type 0 where
  pub rows : Timetable
  pub fits : FitsProblem k rows
  pub dear : pos (2 ^ 127) ≤ℤ problem_cost k rows
