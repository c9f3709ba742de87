-- The first line of a text, cut off at its line feed.
use Rattle.std.proofs.Common.{◌≡◌, ℕ, ◌<◌, true, false, eqb, ltb, List, [], ◌∷◌, length, take, drop, Some, None, refl, arith}
use Rattle.std.specs.List.{position, position_or_len}
use Rattle.std.proofs.lemmas.Bool.{lt-ltb, le-ltb}
use Rattle.tf_words.specs.Words.{lines}
use Rattle.tf_words.proofs.Lines.{line_last, line_then}

abbrev feed_at : List ℕ → ℕ
feed_at text = position_or_len (λ b. eqb b 10) text

-- it is the only one
pub only_line : (text : List ℕ) → 0 < length text → feed_at text ≡ length text
    → lines text ≡ text ∷ lines []
unfolding lines
only_line text some end =
    let far : ltb (feed_at text) (length text) ≡ false = le-ltb _ _ (omega (arith, end)) in
    let none : position (λ b. eqb b 10) text ≡ None = rw far refl in
    line_last text (λ e. omega (arith, e, some)) none

-- others follow its line feed
pub line_before : (text line from rest : List ℕ) (k : ℕ) → feed_at text ≡ k → k < length text
    → line ≡ take k text → from ≡ drop k text → rest ≡ drop 1 from → lines text ≡ line ∷ lines rest
line_before text line from rest k end within line-is from-is rest-is =
    let near : ltb (feed_at text) (length text) ≡ true = lt-ltb _ _ (omega (arith, end, within)) in
    let place : position (λ b. eqb b 10) text ≡ Some k = rw (near, end) refl in
    line_then text line from rest k place line-is from-is rest-is
