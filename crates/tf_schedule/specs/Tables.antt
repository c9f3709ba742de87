-- The tables of a schedule: by jobs, and in a shop by operations.
use Rattle.std.specs.Prelude.{◌≡◌, ℕ, ◌+◌, ◌<◌, ◌≤◌, min, List, length, IsTrue}
use Rattle.std.specs.List.{All}
use Rattle.tf_model.specs.ClassTable.{is_shop_env}
use Rattle.tf_posed.specs.ProblemData.{ProblemData}
use Rattle.tf_schedule.specs.declared.piece.Piece.{Piece}
use Rattle.tf_schedule.specs.declared.extent.Extent.{Extent}
use Rattle.tf_schedule.specs.Amounts.{work, pieces_on, greatest_by, least_by, start_of}
use Rattle.tf_schedule.specs.Claims.{JobsOnce}
use Rattle.tf_schedule.specs.Drawing.{stop_of}
use Rattle.tf_schedule.specs.Extent.{most_work}
use Rattle.tf_schedule.specs.Lanes.{LanesData, HasLanes}
use Rattle.tf_schedule.specs.Schedule.{IsSchedule}
use Rattle.tf_schedule.specs.Condition.{KeepsMachines}
use Rattle.tf_schedule.specs.Operation.{first_operation, extent_behind}
use Rattle.tf_schedule.specs.ProblemMisfit.{IsKnownTo}

-- how long job j works on machine i, counted from 0, and from when to when
pub record IsExtentOn (ps : List Piece) (j i : ℕ) (e : Extent) : Type 0 where
  pub work : e.work ≡ min (work (pieces_on (i + 1) ps) j) most_work
  pub start : e.start ≡ least_by start_of (pieces_on (i + 1) ps) j
  pub stop : e.stop ≡ greatest_by stop_of (pieces_on (i + 1) ps) j

-- the table has the extents of each of the jobs 1 to n on each of m machines
abbrev pub HasOperations : ℕ → ℕ → List Piece → LanesData → Type 0
HasOperations n m ps l = (j i : ℕ) → 1 ≤ j → j ≤ n → i < m
    → IsExtentOn ps j i (extent_behind l (first_operation m j) i)

-- pieces of a schedule of the task, whose jobs run in one place at a time, and their tables
pub record AreTabled (k : ProblemData) (ps : List Piece) (jobs operations : LanesData) : Type 0 where
  pub schedule : IsSchedule ps
  pub known : All (IsKnownTo k) ps
  pub once : JobsOnce ps
  pub of_jobs : HasLanes (length k.jobs) ps jobs
  pub machines : KeepsMachines k jobs
  pub of_operations : IsTrue (is_shop_env k.problem.env)
      → HasOperations (length k.jobs) k.machines ps operations
