use Rattle.std.proofs.Common.{◌≡◌, length}
use Rattle.tf_words.specs.Words.{words}
use Rattle.tf_bound_text.specs.BoundReading.{values}
use Rattle.tf_bound_text.proofs.Values.{with_values}
use Rattle.tf_bound_text.proofs.number.values_from.Given as goal

-- the values so far, and those of the words that are left
abbrev pub invariant-loop-word : goal.invariant-loop-word
invariant-loop-word g l =
    with_values l.values.items (values l.line (words l.rest)) ≡ values l.line (words l.text)

abbrev pub decreases-loop-word : goal.decreases-loop-word
decreases-loop-word g l = length l.rest
