use Rattle.std.proofs.Common.{◌≡◌, ◌*◌, sum_by}
use Rattle.std.specs.List.{range_with_len}
use Rattle.tf_model.specs.SchedulingTask.{job_data, time_of}
use Rattle.tf_evaluate.proofs.arithmetic.own_times.Given as goal

abbrev pub invariant-loop-k : goal.invariant-loop-k
invariant-loop-k g l = l.own
    ≡ sum_by (λ j. (job_data l.task j).weight * time_of l.task j) (range_with_len 1 l.k)
