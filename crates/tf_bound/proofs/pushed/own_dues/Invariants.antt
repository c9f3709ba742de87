use Rattle.std.proofs.Common.{◌≡◌, map}
use Rattle.std.specs.List.{range_with_len}
use Rattle.tf_posed.specs.ProblemData.{problem_job}
use Rattle.tf_bound.proofs.pushed.own_dues.Given as goal

abbrev pub invariant-loop-k : goal.invariant-loop-k
invariant-loop-k g l =
    l.dues.items ≡ map (λ j. (problem_job l.task j).due) (range_with_len 1 l.k)
