-- A text in parts.
use Rattle.std.proofs.Common.{◌≡◌, ℕ, suc, ◌+◌, ◌<◌, List, [], ◌∷◌, length, take, drop, Some, None, refl, sym, ap, ◌∙◌, arith, position, drop-cons}
use Rattle.tf_words.proofs.Parts.{split_then, split_last}
use Rattle.tf_words.specs.WordParts.{is_comma, parts, later_parts}

-- what is cut off before a byte begins with it
cut : (text : List ℕ) (k : ℕ) → k < length text
    → later_parts (drop k text) ≡ parts (drop (k + 1) text)
cut text k lt = let e = drop-cons text k 0 lt in let one : k + 1 ≡ suc k = omega arith in
    ap later_parts e ∙ sym (ap (λ (n : ℕ). parts (drop n text)) one)

pub part_then : (text front back : List ℕ) (k : ℕ) → position is_comma text ≡ Some k
    → front ≡ take k text → back ≡ drop k text → parts text ≡ front ∷ later_parts back
part_then text front back k h front-is back-is =
    let s = split_then is_comma text k h in
    s.0 ∙ ap (λ ps. take k text ∷ ps) (sym (cut text k s.1)) ∙ rw (front-is, back-is) refl

pub part_last : (text : List ℕ) → position is_comma text ≡ None → parts text ≡ text ∷ []
part_last text h = split_last is_comma text h

-- behind the byte with which a text begins
pub behind : (text more : List ℕ) → (length text ≡ 0 → ⊥) → more ≡ drop 1 text
    → later_parts text ≡ parts more
behind [] more some e = absurd (some refl)
behind (b ∷ bs) more some e = ap parts (sym e)
