-- A text that is fed byte by byte.
use Rattle.std.proofs.Common.{◌≡◌, ℕ, ◌+◌, ◌<◌, ◌≤◌, List, [], ◌∷◌, ◌++◌, length, take, drop, get_or, refl, sym, ap, ◌∙◌, arith, append_assoc}
use Rattle.std.proofs.lemmas.List.{append-nil, take-append-drop, take_more}
use Rattle.std.proofs.Math.ListN.{drop_of_length-le}
use Rattle.std.proofs.Math.Seq.{take-add}

-- what was fed before, with a byte more of the piece
pub byte_more : (fed piece : List ℕ) (k : ℕ) → k < length piece
    → (fed ++ take k piece) ++ get_or piece k 0 ∷ [] ≡ fed ++ take (k + 1) piece
byte_more fed piece k lt = append_assoc fed _ _
    ∙ ap (λ (bs : List ℕ). fed ++ bs) (sym (take_more piece k 0 lt))

-- and with all of it
pub all_taken : (fed piece : List ℕ) (k : ℕ) → length piece ≤ k → fed ++ take k piece ≡ fed ++ piece
all_taken fed piece k le =
    ap (λ (bs : List ℕ). fed ++ bs)
    (sym (append-nil (take k piece))
    ∙ ap (λ (bs : List ℕ). take k piece ++ bs) (sym (drop_of_length-le piece le))
    ∙ take-append-drop k piece)

-- a part of a piece and then what is left of it
pub part_more : (fed piece : List ℕ) (n : ℕ) → (fed ++ take n piece) ++ drop n piece ≡ fed ++ piece
part_more fed piece n = append_assoc fed _ _
    ∙ ap (λ (bs : List ℕ). fed ++ bs) (take-append-drop n piece)

-- a part of a piece, and then a part of what is behind it
pub both_parts : (fed piece : List ℕ) (k n : ℕ)
    → (fed ++ take k piece) ++ take n (drop k piece) ≡ fed ++ take (k + n) piece
both_parts fed piece k n =
    append_assoc fed _ _ ∙ ap (λ (bs : List ℕ). fed ++ bs) (sym (take-add k n piece))

-- nothing is left of what has no length
pub none_left : (piece : List ℕ) → length piece ≡ 0 → piece ≡ []
none_left [] h = refl
none_left (b ∷ bs) h = absurd (omega (arith, h))
