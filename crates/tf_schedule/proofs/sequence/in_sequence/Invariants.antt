use Rattle.std.proofs.Common.{take}
use Rattle.tf_schedule.proofs.InSequence.{IsNow}
use Rattle.tf_schedule.proofs.sequence.in_sequence.Given as goal

-- the jobs so far have run
abbrev pub invariant-loop-job : goal.invariant-loop-job
invariant-loop-job g l = IsNow l.task (take l.job-index l.jobs) l.pieces.items l.now
