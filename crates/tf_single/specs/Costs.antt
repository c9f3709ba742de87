-- The cost functions of a task.
use Rattle.std.specs.Prelude.{◌≡◌, ℕ, ◌-◌, ◌≤◌, ℤ, List, length, slice_index_or}
use Rattle.tf_model.specs.Limit.{limit}
use Rattle.tf_model.specs.SchedulingTask.{SchedulingTask, IsJob}
use Rattle.tf_model.specs.Cost.{price}

-- the costs are the task's, job by job, up to the limit
pub record AreCosts {C : Type 0} (cost_at : C → ℕ → ℤ) (k : SchedulingTask) (costs : List C) : Type
    0 where
  pub len : length costs ≡ length k.jobs
  pub each : (j c : ℕ) (d : C) → IsJob k j → c ≤ limit
      → cost_at (slice_index_or costs (j - 1) d) c ≡ price k j c
