use Rattle.std.proofs.Common.{◌≡◌, map, fold, take, slice_index}
use Rattle.std.specs.Int.{int_max}
use Rattle.tf_posed.specs.ProblemData.{problem_due}
use Rattle.tf_bound.proofs.alike.greatest_due.Given as goal

abbrev pub invariant-loop-job : goal.invariant-loop-job
invariant-loop-job g l = l.greatest
    ≡ fold int_max (problem_due l.task (slice_index l.jobs 0))
    (map (problem_due l.task) (take l.job-index l.jobs))
