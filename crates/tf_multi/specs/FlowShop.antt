-- Ranks by which Johnson's order of a flow shop with two machines is sorted.
use Rattle.std.specs.Prelude.{◌≡◌, ℕ, ◌+◌, ◌-◌, ◌*◌, ◌/◌, ◌≤◌, nat_le, if◌then◌else◌}
use Rattle.tf_model.specs.Limit.{limit}
use Rattle.tf_model.specs.SchedulingTask.{SchedulingTask}
use Rattle.tf_check.specs.RatioRank.{IsOfJob, job_in}
use Rattle.tf_multi.specs.TwoMachines.{time_at}

-- a number by which that order rises, where the times a and b are within the limit together
abbrev pub rank_of : ℕ → ℕ → ℕ
rank_of a b = if nat_le a b then a else 2 * limit - b

-- the place of a job in that order and its number, as one number
pub record IsRanked (task : SchedulingTask) (r : ℕ) : Type 0 where
  pub job : IsOfJob r
  pub place : r / 4294967296
      ≡ rank_of (time_at task (job_in r) 1) (time_at task (job_in r) 2)
  pub within : time_at task (job_in r) 1 + time_at task (job_in r) 2 ≤ limit
