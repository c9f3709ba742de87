use Rattle.std.proofs.Common.{◌≡◌, drop}
use Rattle.tf_problem.specs.Kept.{due_time}
use Rattle.tf_bound.specs.Faulted.{falls_fault}
use Rattle.tf_bound.proofs.kept.first_due_early.Given as goal

-- the jobs so far decide no more
abbrev pub invariant-loop-job : goal.invariant-loop-job
invariant-loop-job g l = falls_fault (due_time l.task) 0 l.jobs
    ≡ falls_fault (due_time l.task) l.before (drop l.job-index l.jobs)
