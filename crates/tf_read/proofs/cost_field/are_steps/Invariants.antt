use Rattle.std.proofs.Common.{◌≡◌, length}
use Rattle.std.specs.List.{list_all}
use Rattle.tf_words.specs.WordParts.{later_parts}
use Rattle.tf_read.specs.CostField.{is_step}
use Rattle.tf_read.proofs.cost_field.are_steps.Given as goal

abbrev pub invariant-loop-part : goal.invariant-loop-part
invariant-loop-part l =
    list_all is_step (later_parts l.rest) ≡ list_all is_step (later_parts l.text)

abbrev pub decreases-loop-part : goal.decreases-loop-part
decreases-loop-part l = length l.rest
