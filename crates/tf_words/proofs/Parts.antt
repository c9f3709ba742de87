-- The parts of a list between the elements that pass a test, without the empty ones.
use Rattle.std.proofs.Common.{◌≡◌, ℕ, suc, ◌+◌, ◌<◌, ◌≤◌, Bool, true, false, not, cond, ltb, List, [], ◌∷◌, length, get_or, take, drop, Option, Some, None, refl, sym, ap, subst, ◌∙◌, arith, inl, inr, add-one, drop-cons, length-take, length-drop}
use Rattle.std.specs.List.{slice_split, filter, position_or_len, position}
use Rattle.std.proofs.lemmas.Bool.{cases_Bool, cases_lt, lt-ltb, not-true}
use Rattle.std.proofs.lemmas.List.Sums.{passes_at_first, fails_before_first}
use Rattle.std.proofs.lemmas.List.Splits.{slice_split_first, slice_split_none}
use Rattle.std.proofs.lemmas.List.{get_or-take}
use Rattle.std.proofs.Math.ListN.{drop_of_length-le}

abbrev pub parts : (ℕ → Bool) → List ℕ → List (List ℕ)
parts p text = filter (λ part. ltb 0 (length part)) (slice_split p text)

-- what `position` says of the place
pub is_place : (n l k : ℕ) → cond (ltb n l) (Some n) None ≡ Some k → (n < l) × (n ≡ k)
is_place n l k h = elim (cases_lt n l) [
  | inl lt ↦ (lt, let e = rw (lt-ltb n l lt) at h in cc)
  | inr le ↦ absurd (grind (arith))
]

pub no_place : (n l : ℕ) → cond (ltb n l) (Some n) None ≡ None → l ≤ n
no_place n l h = elim (cases_lt n l) [
  | inl lt ↦ absurd (let e = rw (lt-ltb n l lt) at h in cc)
  | inr le ↦ le
]

pub parts-yes : (p : ℕ → Bool) (b : ℕ) (bs : List ℕ) → p b ≡ true → parts p (b ∷ bs) ≡ parts p bs
parts-yes p b bs e = rw e refl

-- what passes at the front makes no part
parts_past : (p : ℕ → Bool) (text : List ℕ)
    → parts p text ≡ parts p (drop (position_or_len (λ b. not (p b)) text) text)
parts_past p [] = refl
parts_past p (b ∷ bs) = elim (cases_Bool (p b)) [
  | inl e ↦ let k : 1 + position_or_len (λ c. not (p c)) bs
      ≡ suc (position_or_len (λ c. not (p c)) bs) = omega arith in rw (e, k) (parts_past p bs)
  | inr e ↦ rw e (rw e refl)
]

pub gap : (p : ℕ → Bool) (text : List ℕ) (k : ℕ) → position (λ b. not (p b)) text ≡ Some k
    → (parts p text ≡ parts p (drop k text)) × (k < length text) × (p (get_or text k 0) ≡ false)
gap p text k h =
    let at = is_place (position_or_len (λ b. not (p b)) text) (length text) k h in
    let stop : not (p (get_or text k 0)) ≡ true =
    subst (λ (n : ℕ). not (p (get_or text n 0)) ≡ true) at.1
    (passes_at_first (λ b. not (p b)) text 0 at.0) in (
      subst (λ (n : ℕ). parts p text ≡ parts p (drop n text)) at.1 (parts_past p text),
      omega (arith, at.0, at.1),
      not-true _ stop,
    )

pub gap_only : (p : ℕ → Bool) (text : List ℕ) → position (λ b. not (p b)) text ≡ None
    → parts p text ≡ []
gap_only p text h =
    let le = no_place (position_or_len (λ b. not (p b)) text) (length text) h in
    parts_past p text ∙ ap (parts p) (drop_of_length-le text le)

-- a part begins where an element does not pass
not_first : (p : ℕ → Bool) (from : List ℕ) → 0 < length from → p (get_or from 0 0) ≡ false
    → 0 < position_or_len p from
not_first p [] some first = omega arith
not_first p (b ∷ bs) some first = rw first (omega arith)

-- a part that ends before an element that passes
pub part_then : (p : ℕ → Bool) (from : List ℕ) (k : ℕ) → 0 < length from
    → p (get_or from 0 0) ≡ false → position p from ≡ Some k
    → (parts p from ≡ take k from ∷ parts p (drop k from)) × (0 < k) × (k < length from)
part_then p from k some first h =
    let at = is_place (position_or_len p from) (length from) k h in
    let long : 0 < position_or_len p from = not_first p from some first in
    let short : k < length from = omega (arith, at.0, at.1) in
    let full : ltb 0 (length (take k from)) ≡ true =
    lt-ltb _ _ (omega (arith, length-take k from, at.0, at.1)) in
    let split : slice_split p from ≡ take k from ∷ slice_split p (drop (k + 1) from) =
    subst (λ (n : ℕ). slice_split p from ≡ take n from ∷ slice_split p (drop (n + 1) from)) at.1
    (slice_split_first p from 0 at.0) in
    let yes : p (get_or from k 0) ≡ true =
    subst (λ (n : ℕ). p (get_or from n 0) ≡ true) at.1 (passes_at_first p from 0 at.0) in
    let past : parts p (drop k from) ≡ parts p (drop (k + 1) from) =
    ap (parts p) (drop-cons from k 0 short) ∙ parts-yes p _ _ yes
    ∙ ap (λ (n : ℕ). parts p (drop n from)) (sym (add-one k)) in
    let whole : parts p from
    ≡ cond (ltb 0 (length (take k from))) (take k from ∷ parts p (drop (k + 1) from))
    (parts p (drop (k + 1) from)) = ap (filter (λ part. ltb 0 (length part))) split in
    (whole ∙ rw (full, past) refl, omega (arith, long, at.1), short)

-- a part that ends with the list
pub part_last : (p : ℕ → Bool) (from : List ℕ) → 0 < length from → p (get_or from 0 0) ≡ false
    → position p from ≡ None → parts p from ≡ from ∷ []
part_last p from some first h =
    let le = no_place (position_or_len p from) (length from) h in
    let split : slice_split p from ≡ from ∷ [] =
    slice_split_none p from (λ k d lt. fails_before_first p from k d (omega arith)) in
    let full : ltb 0 (length from) ≡ true = lt-ltb _ _ some in
    ap (filter (λ part. ltb 0 (length part))) split ∙ rw full refl

-- the same of the parts with the empty ones
pub split_then : (p : ℕ → Bool) (from : List ℕ) (k : ℕ) → position p from ≡ Some k
    → (slice_split p from ≡ take k from ∷ slice_split p (drop (k + 1) from)) × (k < length from)
split_then p from k h =
    let at = is_place (position_or_len p from) (length from) k h in (
      subst (λ (n : ℕ). slice_split p from ≡ take n from ∷ slice_split p (drop (n + 1) from)) at.1
          (slice_split_first p from 0 at.0),
      omega (arith, at.0, at.1),
    )

pub split_last : (p : ℕ → Bool) (from : List ℕ) → position p from ≡ None
    → slice_split p from ≡ from ∷ []
split_last p from h =
    let le = no_place (position_or_len p from) (length from) h in
    slice_split_none p from (λ k d lt. fails_before_first p from k d (omega arith))

-- the first part of a text, where it ends with the text
pub first_last : (p : ℕ → Bool) (text from : List ℕ) (k : ℕ)
    → position (λ b. not (p b)) text ≡ Some k → from ≡ drop k text → position p from ≡ None
    → parts p text ≡ from ∷ []
first_last p text from k h e none =
    let g = gap p text k h in
    let some : 0 < length from = omega (arith, ap length e, length-drop k text, g.1) in
    let first : p (get_or from 0 0) ≡ false =
    ap p (ap (λ (xs : List ℕ). get_or xs 0 0) (e ∙ drop-cons text k 0 g.1)) ∙ g.2 in
    g.0 ∙ ap (parts p) (sym e) ∙ part_last p from some first none

-- and where more follows it
pub first_then : (p : ℕ → Bool) (text from word rest : List ℕ) (k n : ℕ)
    → position (λ b. not (p b)) text ≡ Some k → from ≡ drop k text → position p from ≡ Some n
    → word ≡ take n from → rest ≡ drop n from
    → (parts p text ≡ word ∷ parts p rest) × (length rest < length text) × (0 < length word)
first_then p text from word rest k n h e some-n word-is rest-is =
    let g = gap p text k h in
    let some : 0 < length from = omega (arith, ap length e, length-drop k text, g.1) in
    let first : p (get_or from 0 0) ≡ false =
    ap p (ap (λ (xs : List ℕ). get_or xs 0 0) (e ∙ drop-cons text k 0 g.1)) ∙ g.2 in
    let t = part_then p from n some first some-n in (
      g.0 ∙ ap (parts p) (sym e) ∙ t.0 ∙ rw (word-is, rest-is) refl,
      omega (arith, ap length e, length-drop k text, ap length rest-is, length-drop n from, t.1),
      omega (arith, ap length word-is, length-take n from, t.1, t.2),
    )

-- the first part begins with the first element that does not pass
begins_by : (p : ℕ → Bool) (from : List ℕ) → 0 < length from → p (get_or from 0 0) ≡ false
    → (o : Option ℕ) → position p from ≡ o
    → (word : List ℕ) × (others : List (List ℕ)) × (parts p from ≡ word ∷ others)
    × (get_or word 0 0 ≡ get_or from 0 0)
begins_by p from some first None h = (from, [], part_last p from some first h, refl)
begins_by p from some first (Some k) h = let t = part_then p from k some first h in
    (take k from, parts p (drop k from), t.0, get_or-take k from 0 0 t.1)

pub begins : (p : ℕ → Bool) (text : List ℕ) (k : ℕ) → position (λ b. not (p b)) text ≡ Some k
    → (word : List ℕ) × (others : List (List ℕ)) × (parts p text ≡ word ∷ others)
    × (get_or word 0 0 ≡ get_or text k 0)
begins p text k h =
    let g = gap p text k h in
    let at : get_or (drop k text) 0 0 ≡ get_or text k 0 =
    ap (λ (xs : List ℕ). get_or xs 0 0) (drop-cons text k 0 g.1) in
    let b = begins_by p (drop k text) (omega (arith, length-drop k text, g.1)) (ap p at ∙ g.2)
    (position p (drop k text)) refl in
    (b.0, b.1, g.0 ∙ b.2, b.3 ∙ at)
