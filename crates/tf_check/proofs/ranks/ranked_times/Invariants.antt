use Rattle.std.proofs.Common.{◌≡◌, ◌+◌, drop}
use Rattle.tf_model.specs.Bounds.{ranks_value}
use Rattle.tf_model.specs.SchedulingTask.{time_of}
use Rattle.tf_model.proofs.RankSums.{ranked}
use Rattle.tf_check.proofs.ranks.ranked_times.Given as goal

-- the jobs that are left count behind those so far
abbrev pub invariant-loop-place : goal.invariant-loop-place
invariant-loop-place g l =
    l.value + ranked l.task.machines (time_of l.task) l.place (drop l.place l.jobs)
    ≡ ranks_value l.task l.jobs
