-- The longest jobs, and the certificates of a timetable that is no longer than it has to be.
use Rattle.std.specs.Prelude.{ℕ, ◌<◌, ◌≤◌}
use Rattle.tf_model.specs.Bounds.{load_value}
use Rattle.tf_model.specs.SchedulingTask.{SchedulingTask, IsJob, time_of}
use Rattle.tf_check.specs.Claim.{Claim, ByPairs, ByLastOf, ByWindow, BySplit, ByLoad, ByMachine, ByOneJob, ByRanks}

-- the first of the jobs that take longest
pub record IsFirstLongest (task : SchedulingTask) (j : ℕ) : Type 0 where
  pub job : IsJob task j
  pub longest : (i : ℕ) → IsJob task i → time_of task i ≤ time_of task j
  pub first : (i : ℕ) → IsJob task i → i < j → time_of task i < time_of task j

-- the load, where no job takes longer, and otherwise the first of the longest jobs
abbrev pub IsLoadOrLongest : SchedulingTask → Claim → Type 0
IsLoadOrLongest task ByLoad = (j : ℕ) → IsJob task j → time_of task j ≤ load_value task
IsLoadOrLongest task (ByOneJob j) = IsFirstLongest task j × (load_value task < time_of task j)
IsLoadOrLongest task ByPairs = ⊥
IsLoadOrLongest task (ByLastOf jobs) = ⊥
IsLoadOrLongest task (ByWindow jobs) = ⊥
IsLoadOrLongest task (BySplit side delta first) = ⊥
IsLoadOrLongest task (ByMachine machine) = ⊥
IsLoadOrLongest task (ByRanks jobs) = ⊥
