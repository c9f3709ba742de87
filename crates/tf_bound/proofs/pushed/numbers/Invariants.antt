use Rattle.std.proofs.Common.{◌≡◌, map}
use Rattle.std.specs.List.{range_with_len}
use Rattle.tf_bound.specs.JobNumbers.{number_by}
use Rattle.tf_bound.proofs.pushed.numbers.Given as goal

abbrev pub invariant-loop-k : goal.invariant-loop-k
invariant-loop-k g l =
    l.numbers.items ≡ map (number_by l.number l.task) (range_with_len 1 l.k)
