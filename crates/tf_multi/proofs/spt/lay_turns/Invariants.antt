use Rattle.std.proofs.Common.{suc, drop}
use Rattle.std.specs.List.{fold}
use Rattle.tf_model.specs.SchedulingTask.{time_of}
use Rattle.tf_schedule.specs.SemiActive.{with_operation}
use Rattle.tf_multi.specs.Dealing.{turns, share}
use Rattle.tf_multi.proofs.OneByOne.{IsLeft}
use Rattle.tf_multi.proofs.spt.lay_turns.Given as goal

-- the jobs from the place on are left
abbrev pub invariant-loop-place : goal.invariant-loop-place
invariant-loop-place g l = IsLeft (time_of l.task) (suc l.machine)
    (fold with_operation l.initial.pieces.items
    (share (time_of l.task) l.task.machines l.machine l.order))
    l.pieces.items l.now (turns l.task.machines 0 (drop l.place l.order))
