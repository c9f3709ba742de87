use Rattle.std.proofs.Common.{◌≡◌}
use Rattle.tf_model.specs.SchedulingTask.{time_of}
use Rattle.tf_schedule.specs.SemiActive.{laid}
use Rattle.tf_multi.specs.Dealing.{dealt}
use Rattle.tf_multi.proofs.spt.dealt.Given as goal

-- the machines so far have their jobs
abbrev pub invariant-loop-machine : goal.invariant-loop-machine
invariant-loop-machine g l =
    l.pieces.items ≡ laid (dealt (time_of l.task) l.task.machines l.machine l.order)
