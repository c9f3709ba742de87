use Rattle.std.proofs.Common.{◌≡◌, length}
use Rattle.tf_model.specs.Limit.{limit}
use Rattle.tf_words.specs.Words.{words}
use Rattle.tf_bound_text.specs.BoundReading.{naturals}
use Rattle.tf_bound_text.proofs.Naturals.{with_numbers}
use Rattle.tf_bound_text.proofs.number.numbers_from.Given as goal

-- the numbers so far, and those of the words that are left
abbrev pub invariant-loop-word : goal.invariant-loop-word
invariant-loop-word g l =
    with_numbers l.numbers.items (naturals l.line 0 limit (words l.rest))
    ≡ naturals l.line 0 limit (words l.text)

abbrev pub decreases-loop-word : goal.decreases-loop-word
decreases-loop-word g l = length l.rest
