-- A task that serves several objectives, and how a schedule stands to it.
use Rattle.std.specs.Prelude.{◌≡◌, Bool, not, ◌&&◌, ◌||◌, List, Option, None, Some, Result, Ok, Err}
use Rattle.std.specs.List.Sorted.{IsPermutation}
use Rattle.tf_model.specs.declared.problem.Goal.{Goal}
use Rattle.tf_posed.specs.ProblemData.{ProblemData}
use Rattle.tf_prepare.specs.Preparing.{uses_weight, uses_due, prepared_in}
use Rattle.tf_schedule.specs.declared.piece.Piece.{Piece}
use Rattle.tf_schedule.specs.declared.schedule.PieceFault.{PieceFault}
use Rattle.tf_schedule.specs.Schedule.{IsSchedule, HasFirstFault}
use Rattle.tf_schedule.specs.Lanes.{LanesData}
use Rattle.tf_assess.specs.Assessing.{IsProblemJudged, IsSorting}
use Rattle.tf_assess.specs.Measures.{PosedData, by_goal}
use Rattle.tf_evaluate.specs.declared.evaluation.ProblemFit.{ProblemFit}
use Rattle.tf_evaluate.specs.declared.evaluation.ProblemFit.TheVariants.{Fits}
use Rattle.tf_assess.specs.declared.placed.Placed.{Placed}

-- a task by the first objective has the fields that the second looks at
abbrev pub serves : Goal → Goal → Bool
serves rich goal =
    (not (uses_weight goal) || uses_weight rich) && (not (uses_due goal) || uses_due rich)

-- the pieces are sorted as a schedule, or this is what is wrong with them first
abbrev pub IsSorted : List Piece → Result (List Piece) PieceFault → Type 0
IsSorted ps (Ok qs) = IsPermutation ps qs × IsSchedule qs
IsSorted ps (Err fault) = HasFirstFault ps fault

abbrev pub IsUnfit : ProblemFit → Type 0
IsUnfit (Fits value) = ⊥
IsUnfit _ = Unit {0}

-- the pieces, sorted, fit the task and have this table; without a table they do not fit it
abbrev pub HasTable : ProblemData → List Piece → Option LanesData → Type 0
HasTable k ps (Some jobs) = (qs : List Piece) × IsSorting k ps qs jobs None
HasTable k ps None = (fit : ProblemFit) × IsProblemJudged k ps fit × IsUnfit fit

-- the task is that of the instance by the objective that it names, and the table is of the pieces
pub record IsPlacedOf {A : Type 0} (posed : PosedData) (ps : List Piece) (placed : Placed A)
    : Type 0 where
  pub meant : prepared_in posed.timed (by_goal posed.problem placed.goal) posed.machines
      ≡ Ok placed.task
  pub judged : HasTable placed.task ps placed.jobs

-- the same, of this objective
abbrev pub IsPlacedBy : {A : Type 0} → PosedData → List Piece → Goal → Placed A → Type 0
IsPlacedBy posed ps goal placed = IsPlacedOf posed ps placed × (placed.goal ≡ goal)
