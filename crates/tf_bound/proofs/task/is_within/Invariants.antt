use Rattle.std.proofs.Common.{◌+◌, ◌≤◌, All, take}
use Rattle.tf_model.specs.Limit.{limit}
use Rattle.tf_bound.proofs.task.is_within.Given as goal

abbrev pub invariant-loop-job : goal.invariant-loop-job
invariant-loop-job g l = All (λ x. x.release + l.all ≤ limit) (take l.job-index l.jobs)
