-- The names of the instances of a flow shop file, line by line.
use Rattle.std.proofs.Common.{◌≡◌, ℕ, ◌-◌, List, [], ◌∷◌, length, slice_index_or, refl, sym, arith}
use Rattle.tf_words.specs.Words.{lines}
use Rattle.tf_words.proofs.Lines.{line_none}
use Rattle.tf_held.specs.Headings.{names_of}

-- no line is left
pub none_named : (text : List ℕ) (passed : ℕ) → length text ≡ 0
    → text ≡ slice_index_or (names_of (lines text)) (passed - 1) []
none_named [] passed none = sym (rw (line_none [] refl) refl)
none_named (_ ∷ _) passed none = absurd (omega (arith, none))
