-- Jobs with levels of their costs.
use Rattle.std.specs.Prelude.{◌≡◌, ℕ, ◌≤◌, pos, ◌≤ℤ◌, List, map}
use Rattle.tf_model.specs.Limit.{limit}
use Rattle.tf_model.specs.SchedulingTask.{SchedulingTask}
use Rattle.tf_model.specs.Cost.{price}
use Rattle.tf_single.specs.declared.costed_job.CostedJob.{CostedJob}

-- from the first time of its level on up to `end` the job costs the level's value
abbrev pub HasLevel : SchedulingTask → ℕ → CostedJob → Type 0
HasLevel k end c = (e : ℕ) → c.level.since ≤ℤ pos e → e ≤ end → e ≤ limit
    → price k c.job e ≡ c.level.value

abbrev pub jobs_of : List CostedJob → List ℕ
jobs_of = map (λ c. c.job)
