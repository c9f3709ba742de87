-- The two sides of a split.
use Rattle.std.specs.Prelude.{ℕ, List, if◌then◌else◌}
use Rattle.tf_model.specs.Bounds.{stands_in}
use Rattle.tf_model.specs.SchedulingTask.{SchedulingTask, time_on}

-- the time of a job on the machine on which it counts: the first for the side, the second for
-- others
abbrev pub counted : SchedulingTask → List ℕ → ℕ → ℕ
counted k side j = if stands_in side j then time_on k j 0 else time_on k j 1
