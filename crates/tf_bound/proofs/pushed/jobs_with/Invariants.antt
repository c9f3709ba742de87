use Rattle.std.proofs.Common.{◌≡◌, map}
use Rattle.std.specs.List.{range_with_len}
use Rattle.tf_problem.specs.Pushed.{pushed_job}
use Rattle.tf_bound.proofs.pushed.jobs_with.Given as goal

abbrev pub invariant-loop-k : goal.invariant-loop-k
invariant-loop-k g l =
    l.jobs.items ≡ map (pushed_job l.task l.releases l.dues) (range_with_len 1 l.k)
