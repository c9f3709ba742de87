use Rattle.std.proofs.Common.{◌≡◌, map}
use Rattle.std.specs.List.{range_with_len}
use Rattle.tf_evaluate.specs.Outcomes.{outcome_in}
use Rattle.tf_evaluate.proofs.outcomes.outcomes.Given as goal

abbrev pub invariant-loop-k : goal.invariant-loop-k
invariant-loop-k g l = l.outcomes.items ≡ map (outcome_in l.task l.lanes) (range_with_len 1 l.k)
