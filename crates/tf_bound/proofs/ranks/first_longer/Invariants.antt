use Rattle.std.proofs.Common.{◌≡◌, drop}
use Rattle.tf_model.specs.Limit.{limit}
use Rattle.tf_posed.specs.ProblemData.{problem_time}
use Rattle.tf_bound.specs.Faulted.{rises_fault}
use Rattle.tf_bound.proofs.ranks.first_longer.Given as goal

-- the jobs so far decide no more
abbrev pub invariant-loop-job : goal.invariant-loop-job
invariant-loop-job g l = rises_fault (problem_time l.task) limit l.jobs
    ≡ rises_fault (problem_time l.task) l.before (drop l.job-index l.jobs)
