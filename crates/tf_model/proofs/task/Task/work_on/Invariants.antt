use Rattle.std.proofs.Common.{◌≡◌, ◌-◌, sum_by}
use Rattle.std.specs.List.{range_with_len}
use Rattle.tf_model.specs.SchedulingTask.{time_on}
use Rattle.tf_model.proofs.task.Task.work_on.Given as goal

-- the time of the jobs so far
abbrev pub invariant-loop-k : goal.invariant-loop-k
invariant-loop-k g l =
    l.work ≡ sum_by (λ j. time_on l.self j (l.machine - 1)) (range_with_len 1 l.k)
