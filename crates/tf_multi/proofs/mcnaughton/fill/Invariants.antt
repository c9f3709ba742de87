use Rattle.std.proofs.Common.{◌≡◌, ◌+◌, ◌-◌, ◌++◌, length}
use Rattle.std.specs.List.{range_with_len}
use Rattle.tf_model.specs.SchedulingTask.{all_jobs, time_of}
use Rattle.tf_multi.specs.Fill.{IsFilled}
use Rattle.tf_multi.specs.Wrapped.{wrapped}
use Rattle.tf_multi.proofs.mcnaughton.fill.Given as goal

abbrev pub invariant-loop-k : goal.invariant-loop-k
invariant-loop-k g l = record {
  filled : IsFilled l.value (time_of l.task) l.k l.pieces.items l.front.machine l.front.at;
  wrapped : l.pieces.items ++ wrapped l.value (time_of l.task) l.front.machine l.front.at
      (range_with_len (l.k + 1) (length l.task.jobs - l.k))
      ≡ wrapped l.value (time_of l.task) 1 0 (all_jobs l.task);
}
