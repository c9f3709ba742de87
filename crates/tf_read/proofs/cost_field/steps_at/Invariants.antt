use Rattle.std.proofs.Common.{◌≡◌, ◌+◌, length, vec_len}
use Rattle.tf_read.specs.Faults.{each_from}
use Rattle.tf_words.specs.WordParts.{later_parts}
use Rattle.tf_read.specs.CostField.{step_at, steps_at}
use Rattle.tf_read.proofs.Each.{with_front}
use Rattle.tf_read.proofs.cost_field.steps_at.Given as goal

abbrev pub invariant-loop-part : goal.invariant-loop-part
invariant-loop-part g l =
    with_front l.steps.items
    (each_from (λ k. step_at l.line) (vec_len l.steps + 1) (later_parts l.rest))
    ≡ steps_at l.line (later_parts l.text)

abbrev pub decreases-loop-part : goal.decreases-loop-part
decreases-loop-part g l = length l.rest
