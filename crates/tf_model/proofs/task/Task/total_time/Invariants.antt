use Rattle.std.proofs.Common.{◌≡◌, sum_by}
use Rattle.std.specs.List.{range_with_len}
use Rattle.tf_model.specs.SchedulingTask.{time_of}
use Rattle.tf_model.proofs.task.Task.total_time.Given as goal

-- the time of the jobs so far
abbrev pub invariant-loop-k : goal.invariant-loop-k
invariant-loop-k g l = l.total ≡ sum_by (time_of l.self) (range_with_len 1 l.k)
