use Rattle.std.proofs.Common.{◌≡◌, map}
use Rattle.std.specs.List.{range_with_len}
use Rattle.tf_evaluate.specs.Outcomes.{outcome_on}
use Rattle.tf_assess.specs.Assessing.{counted_by}
use Rattle.tf_assess.proofs.outcomes.outcomes.Given as goal

abbrev pub invariant-loop-k : goal.invariant-loop-k
invariant-loop-k g l = l.outcomes.items ≡ map (outcome_on (counted_by l.task) l.lanes) (range_with_len 1 l.k)
