use Rattle.std.proofs.Common.{take}
use Rattle.tf_model.specs.TaskBuilder.{HasTaken}
use Rattle.tf_model.proofs.prepare.assemble.Given as goal

-- it took the jobs so far
abbrev pub invariant-loop-job : goal.invariant-loop-job
invariant-loop-job g l =
    HasTaken l.problem l.fn.machines l.instance.machines l.builder (take l.job-index l.jobs)
