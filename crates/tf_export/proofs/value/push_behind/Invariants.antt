use Rattle.std.proofs.Common.{◌≡◌, ◌∷◌, ◌++◌, length}
use Rattle.std.specs.List.{flat_map}
use Rattle.tf_words.specs.Words.{words}
use Rattle.tf_export.proofs.value.push_behind.Given as goal

-- the words so far are written
abbrev pub invariant-loop-word : goal.invariant-loop-word
invariant-loop-word l =
    l.text.items ++ flat_map (λ word. l.separator ∷ word) (words l.rest)
    ≡ l.fn.text.items ++ flat_map (λ word. l.separator ∷ word) (words l.fn.row)

abbrev pub decreases-loop-word : goal.decreases-loop-word
decreases-loop-word l = length l.rest
