-- The first line of a text, and whether it is kept.
use Rattle.std.proofs.Common.{◌≡◌, ℕ, suc, ◌+◌, ◌<◌, ◌≤◌, Bool, true, false, not, eqb, ltb, List, [], ◌∷◌, length, get_or, take, drop, Option, Some, None, refl, sym, ap, subst, ◌∙◌, arith, inl, inr, length-take}
use Rattle.std.specs.List.{onto_first, list_all, position_or_len, position}
use Rattle.std.proofs.lemmas.Bool.{cases_Bool, lt-ltb, le-ltb, false_from_ne_true, or_parts}
use Rattle.std.proofs.lemmas.List.{drop-drop, get_or-take}
use Rattle.std.proofs.lemmas.List.Sums.{position_or_len_is, fails_before_first}
use Rattle.memchr.specs.Find.{IsFirstByte}
use Rattle.tf_words.specs.Words.{is_white, is_front, lines, words, is_kept, kept_lines}
use Rattle.tf_words.proofs.Parts.{is_place, no_place, gap_only, begins}

abbrev feed : List ℕ → ℕ
feed text = position_or_len (λ b. eqb b 10) text

one_later : (b : ℕ) (bs : List ℕ) → eqb b 10 ≡ false → feed (b ∷ bs) ≡ suc (feed bs)
one_later b bs e = rw e (omega arith)

one_more : (b : ℕ) (bs : List ℕ) → eqb b 10 ≡ false → lines (b ∷ bs) ≡ onto_first b (lines bs)
unfolding lines
one_more b bs e = rw e refl

at_feed : (text : List ℕ) → feed text < length text
    → lines text ≡ take (feed text) text ∷ lines (drop (suc (feed text)) text)
unfolding lines
at_feed [] lt = absurd (omega arith)
at_feed (b ∷ bs) lt = elim (cases_Bool (eqb b 10)) [
  | inl e ↦ rw e refl
  | inr e ↦
      let later = one_later b bs e in
      let shorter : feed bs < length bs = omega (arith, later, lt) in
      let whole : lines (b ∷ bs) ≡ (b ∷ take (feed bs) bs) ∷ lines (drop (suc (feed bs)) bs) =
      one_more b bs e ∙ ap (onto_first b) (at_feed bs shorter) in
      subst (λ (n : ℕ). lines (b ∷ bs) ≡ take n (b ∷ bs) ∷ lines (drop (suc n) (b ∷ bs)))
      (sym later) whole
]

no_feed : (b : ℕ) (bs : List ℕ) → length (b ∷ bs) ≤ feed (b ∷ bs) → lines (b ∷ bs) ≡ (b ∷ bs) ∷ []
unfolding lines
no_feed b [] le = elim (cases_Bool (eqb b 10)) [
  | inl e ↦ absurd (let none : feed (b ∷ []) ≡ 0 = rw e refl in omega (arith, none, le))
  | inr e ↦ rw e refl
]
no_feed b (c ∷ cs) le = elim (cases_Bool (eqb b 10)) [
  | inl e ↦ absurd (let none : feed (b ∷ c ∷ cs) ≡ 0 = rw e refl in omega (arith, none, le))
  | inr e ↦ one_more b (c ∷ cs) e
      ∙ ap (onto_first b) (no_feed c cs (omega (arith, le, one_later b (c ∷ cs) e)))
]

-- what stands before the first line feed has none
pub feed_within : (text : List ℕ) → feed text ≤ length text
feed_within [] = omega arith
feed_within (b ∷ bs) = elim (cases_Bool (eqb b 10)) [
  | inl e ↦ let none : feed (b ∷ bs) ≡ 0 = rw e refl in omega (arith, none)
  | inr e ↦ omega (arith, one_later b bs e, feed_within bs)
]

pub before_feed : (text : List ℕ)
    → list_all (λ b. not (eqb b 10)) (take (position_or_len (λ b. eqb b 10) text) text) ≡ true
before_feed [] = refl
before_feed (b ∷ bs) = elim (cases_Bool (eqb b 10)) [
  | inl e ↦ rw e refl
  | inr e ↦
      subst (λ (n : ℕ). list_all (λ c. not (eqb c 10)) (take n (b ∷ bs)) ≡ true)
      (sym (one_later b bs e)) (rw e (before_feed bs))
]

pub line_last : (text : List ℕ) → (length text ≡ 0 → ⊥) → position (λ b. eqb b 10) text ≡ None
    → lines text ≡ text ∷ []
line_last [] some h = absurd (some refl)
line_last (b ∷ bs) some h = no_feed b bs (no_place (feed (b ∷ bs)) (length (b ∷ bs)) h)

pub line_then : (text line from rest : List ℕ) (k : ℕ) → position (λ b. eqb b 10) text ≡ Some k
    → line ≡ take k text → from ≡ drop k text → rest ≡ drop 1 from → lines text ≡ line ∷ lines rest
line_then text line from rest k h line-is from-is rest-is =
    let at = is_place (feed text) (length text) k h in
    let whole : lines text ≡ take k text ∷ lines (drop (suc k) text) =
    subst (λ (n : ℕ). lines text ≡ take n text ∷ lines (drop (suc n) text)) at.1
    (at_feed text at.0) in
    let one : k + 1 ≡ suc k = omega arith in
    let same : drop (suc k) text ≡ rest = sym (ap (λ (n : ℕ). drop n text) one)
    ∙ sym (drop-drop 1 k text) ∙ ap (drop 1) (sym from-is) ∙ sym rest-is in
    whole ∙ rw (line-is, ← same) refl

pub line_none : (text : List ℕ) → length text ≡ 0 → lines text ≡ []
unfolding lines
line_none [] h = refl
line_none (b ∷ bs) h = absurd (omega (arith, h))

-- the first line is kept, or it isn't
pub keeps_line : (text line rest : List ℕ) (n : ℕ) → lines text ≡ line ∷ lines rest
    → is_kept (words line) ≡ true
    → kept_lines n (lines text) ≡ record { number = n; bytes = line }
    ∷ kept_lines (n + 1) (lines rest)
unfolding kept_lines
keeps_line text line rest n h kept = ap (kept_lines n) h ∙ rw kept refl

pub skips_line : (text line rest : List ℕ) (n : ℕ) → lines text ≡ line ∷ lines rest
    → is_kept (words line) ≡ false → kept_lines n (lines text) ≡ kept_lines (n + 1) (lines rest)
unfolding kept_lines
skips_line text line rest n h kept = ap (kept_lines n) h ∙ rw kept refl

pub none_kept : (text : List ℕ) (n : ℕ) → lines text ≡ [] → kept_lines n (lines text) ≡ []
unfolding kept_lines
none_kept text n h = ap (kept_lines n) h

-- the byte at which the first word begins tells whether the line is kept
pub kept_by_front : (line : List ℕ) (k : ℕ) → position (λ b. not (is_white b)) line ≡ Some k
    → is_kept (words line) ≡ not (eqb (get_or line k 0) 35)
unfolding words
kept_by_front line k h = let b = begins is_white line k h in ap is_kept b.2
    ∙ ap (λ (c : ℕ). not (eqb c 35)) b.3

pub blank : (line : List ℕ) → position (λ b. not (is_white b)) line ≡ None
    → is_kept (words line) ≡ false
unfolding words
blank line h = ap is_kept (gap_only is_white line h)

-- where a list has no element that passes, and where the first one stands
none_passes : (test : ℕ → Bool) (text : List ℕ)
    → ((i : ℕ) → i < length text → test (get_or text i 0) ≡ false) → position test text ≡ None
none_passes test text h =
    let far : position_or_len test text ≡ length text =
    position_or_len_is test text (length text) 0 (omega arith) h (λ lt. absurd (omega arith)) in
    let none : ltb (position_or_len test text) (length text) ≡ false =
    le-ltb _ _ (omega (arith, far)) in
    rw none refl

first_passes : (test : ℕ → Bool) (text : List ℕ) (k : ℕ) → k < length text
    → ((i : ℕ) → i < k → test (get_or text i 0) ≡ false) → test (get_or text k 0) ≡ true
    → position test text ≡ Some k
first_passes test text k lt before at =
    let near : position_or_len test text ≡ k =
    position_or_len_is test text k 0 (omega arith) before (λ l. at) in
    let some : ltb (position_or_len test text) (length text) ≡ true =
    lt-ltb _ _ (omega (arith, near)) in
    rw (some, near) refl

-- a place that a byte search gives
pub first_place : (test : ℕ → Bool) (text : List ℕ) (r : Option ℕ) → IsFirstByte test text r
    → r ≡ position test text
first_place test text None h =
    sym (none_passes test text (λ k lt. false_from_ne_true _ (h k (omega arith) lt)))
first_place test text (Some k) h =
    sym (first_passes test text k h.0.high
    (λ i lt. false_from_ne_true _ (h.0.before i (omega arith) lt)) h.1)

-- before the first byte of a word or line feed there are blanks
not_front : (b : ℕ) → is_front b ≡ false → (eqb b 10 ≡ false) × (not (is_white b) ≡ false)
not_front b h = or_parts (eqb b 10) (not (is_white b)) h

before_front : (text : List ℕ) (i : ℕ) → i < position_or_len is_front text
    → (eqb (get_or text i 0) 10 ≡ false) × (not (is_white (get_or text i 0)) ≡ false)
before_front text i lt = not_front (get_or text i 0) (fails_before_first is_front text i 0 lt)

-- a text that is one blank line
pub blank_last : (text : List ℕ) (n : ℕ) → 0 < length text → position is_front text ≡ None
    → kept_lines n (lines text) ≡ kept_lines (n + 1) (lines [])
unfolding lines kept_lines
blank_last text n some h =
    let far : length text ≤ position_or_len is_front text = no_place _ _ h in
    let feeds : position (λ b. eqb b 10) text ≡ None =
    none_passes (λ b. eqb b 10) text (λ i lt. (before_front text i (omega arith)).0) in
    let words : position (λ b. not (is_white b)) text ≡ None =
    none_passes (λ b. not (is_white b)) text (λ i lt. (before_front text i (omega arith)).1) in
    let one : lines text ≡ text ∷ [] = line_last text (λ e. omega (arith, e)) feeds in
    skips_line text text [] n one (blank text words)

-- a blank line and what follows it
pub blank_then : (text rest : List ℕ) (n k : ℕ) → position is_front text ≡ Some k
    → eqb (get_or text k 0) 10 ≡ true → rest ≡ drop (k + 1) text
    → kept_lines n (lines text) ≡ kept_lines (n + 1) (lines rest)
blank_then text rest n k h feed rest-is =
    let at = is_place (position_or_len is_front text) (length text) k h in
    let feeds : position (λ b. eqb b 10) text ≡ Some k =
    first_passes (λ b. eqb b 10) text k (omega (arith, at.0, at.1))
    (λ i lt. (before_front text i (omega (arith, at.1))).0) feed in
    let short : length (take k text) ≡ k = omega (arith, length-take k text, at.0, at.1) in
    let words : position (λ b. not (is_white b)) (take k text) ≡ None =
    none_passes (λ b. not (is_white b)) (take k text)
    (λ i lt. ap (λ (b : ℕ). not (is_white b)) (get_or-take k text i 0 (omega (arith, short)))
    ∙ (before_front text i (omega (arith, at.1, short))).1) in
    let behind : rest ≡ drop 1 (drop k text) = rest-is ∙ sym (drop-drop 1 k text) in
    skips_line text (take k text) rest n
    (line_then text (take k text) (drop k text) rest k feeds refl refl behind)
    (blank (take k text) words)
