use Rattle.std.proofs.Common.{◌≡◌, drop}
use Rattle.tf_posed.specs.ProblemData.{problem_release}
use Rattle.tf_bound.specs.Faulted.{falls_fault}
use Rattle.tf_bound.proofs.shortest.first_released_early.Given as goal

-- the jobs so far decide no more
abbrev pub invariant-loop-job : goal.invariant-loop-job
invariant-loop-job g l = falls_fault (problem_release l.task) 0 l.jobs
    ≡ falls_fault (problem_release l.task) l.before (drop l.job-index l.jobs)
