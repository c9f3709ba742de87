use Rattle.std.proofs.Common.{◌≡◌, map, min, fold, take, slice_index}
use Rattle.tf_problem.specs.ProblemBounds.{head}
use Rattle.tf_bound.proofs.machine.least_head.Given as goal

abbrev pub invariant-loop-job : goal.invariant-loop-job
invariant-loop-job g l = l.least
    ≡ fold min (head l.task l.machine (slice_index l.jobs 0))
    (map (head l.task l.machine) (take l.job-index l.jobs))
