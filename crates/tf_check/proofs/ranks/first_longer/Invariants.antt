use Rattle.std.proofs.Common.{◌≡◌, drop}
use Rattle.tf_check.specs.Bound.{ranks_fault, longer_fault}
use Rattle.tf_check.proofs.ranks.first_longer.Given as goal

-- the jobs so far decide no more
abbrev pub invariant-loop-job : goal.invariant-loop-job
invariant-loop-job g l = ranks_fault l.task l.jobs
    ≡ longer_fault l.task l.before (drop l.job-index l.jobs)
