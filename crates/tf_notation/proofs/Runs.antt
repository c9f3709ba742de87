-- How a text begins, as tokens.
use Rattle.std.proofs.Common.{◌≡◌, ℕ, suc, ◌+◌, ◌<◌, true, false, not, eqb, List, [], ◌∷◌, ◌&&◌, length, get_or, take, drop, Some, None, refl, sym, ap, subst, ◌∙◌, arith, inl, inr, drop-cons}
use Rattle.std.specs.List.{position_or_len, position}
use Rattle.std.proofs.lemmas.Bool.{cases_Bool, not-true, eqb-true, or_cases, false≢true}
use Rattle.std.proofs.lemmas.List.Sums.{passes_at_first}
use Rattle.std.proofs.Math.ListN.{drop_of_length-le}
use Rattle.std.proofs.lemmas.List.{drop-drop}
use Rattle.tf_words.proofs.Parts.{is_place, no_place}
use Rattle.tf_notation.specs.Tokens.{tokens_from, is_gap, is_word_byte, lengthen, begins_word}

-- gaps at the front make no token
past : (offset : ℕ) (text : List ℕ)
    → tokens_from offset text
    ≡ tokens_from (offset + position_or_len (λ b. not (is_gap b)) text)
    (drop (position_or_len (λ b. not (is_gap b)) text) text)
unfolding tokens_from
past offset [] = refl
past offset (b ∷ bs) = elim (cases_Bool (is_gap b)) [
  | inl e ↦
      let k : 1 + position_or_len (λ c. not (is_gap c)) bs
      ≡ suc (position_or_len (λ c. not (is_gap c)) bs) = omega arith in
      let j : offset + suc (position_or_len (λ c. not (is_gap c)) bs) ≡ (offset + 1)
      + position_or_len (λ c. not (is_gap c)) bs = omega arith in
      rw (e, k, j) (past (offset + 1) bs)
  | inr e ↦ let z : offset + 0 ≡ offset = omega arith in rw (e, z) (rw e refl)
]

pub no_token : (offset : ℕ) (text : List ℕ) → position (λ b. not (is_gap b)) text ≡ None
    → tokens_from offset text ≡ []
unfolding tokens_from
no_token offset text h =
    let le = no_place (position_or_len (λ b. not (is_gap b)) text) (length text) h in
    past offset text
    ∙ ap (tokens_from (offset + position_or_len (λ b. not (is_gap b)) text))
    (drop_of_length-le text le)

pub record TokenAt (offset : ℕ) (text : List ℕ) (k : ℕ) : Type 0 where
  pub same : tokens_from offset text ≡ tokens_from (offset + k) (drop k text)
  pub inside : k < length text
  pub first : is_gap (get_or (drop k text) 0 0) ≡ false

pub token_at : (offset : ℕ) (text : List ℕ) (k : ℕ) → position (λ b. not (is_gap b)) text ≡ Some k
    → TokenAt offset text k
token_at offset text k h =
    let at = is_place (position_or_len (λ b. not (is_gap b)) text) (length text) k h in
    let stop : not (is_gap (get_or text k 0)) ≡ true =
    subst (λ (n : ℕ). not (is_gap (get_or text n 0)) ≡ true) at.1
    (passes_at_first (λ b. not (is_gap b)) text 0 at.0) in
    let inside : k < length text = omega (arith, at.0, at.1) in
    record {
      same = subst (λ (n : ℕ). tokens_from offset text ≡ tokens_from (offset + n) (drop n text))
          at.1 (past offset text);
      inside = inside;
      first = ap (λ (xs : List ℕ). is_gap (get_or xs 0 0)) (drop-cons text k 0 inside)
          ∙ not-true _ stop;
    }

-- a letter is no gap
pub word_byte_no_gap : (b : ℕ) → is_word_byte b ≡ true → is_gap b ≡ false
word_byte_no_gap b h = elim (cases_Bool (is_gap b)) [
  | inr e ↦ e
  | inl e ↦ elim (or_cases (eqb b 32) (eqb b 9) e) [
    | inl x ↦ absurd (false≢true (subst (λ (n : ℕ). is_word_byte n ≡ true) (eqb-true b 32 x) h))
    | inr x ↦ absurd (false≢true (subst (λ (n : ℕ). is_word_byte n ≡ true) (eqb-true b 9 x) h))
  ]
]

pub lengthened : (offset : ℕ) (b : ℕ) (bs : List ℕ) → is_word_byte b ≡ true → begins_word bs ≡ true
    → tokens_from offset (b ∷ bs) ≡ lengthen offset b (tokens_from (offset + 1) bs)
unfolding tokens_from
lengthened offset b bs letter begins = rw (word_byte_no_gap b letter, letter, begins) refl

abbrev pub word_len : List ℕ → ℕ
word_len text = position_or_len (λ c. not (is_word_byte c)) text

one_longer : (b : ℕ) (bs : List ℕ) → is_word_byte b ≡ true → word_len (b ∷ bs) ≡ suc (word_len bs)
one_longer b bs letter = rw letter (omega arith)

abbrev pub Begins : ℕ → List ℕ → ℕ → Type 0
Begins offset text n =
    tokens_from offset text ≡ record { start = offset; bytes = take n text }
    ∷ tokens_from (offset + n) (drop n text)

-- another byte is one by itself
pub other : (offset : ℕ) (b : ℕ) (bs : List ℕ) → is_gap b ≡ false
    → (is_word_byte b && begins_word bs) ≡ false → Begins offset (b ∷ bs) 1
unfolding tokens_from
other offset b bs mark h = rw (mark, h) refl

-- a run of letters is one token
run : (offset : ℕ) (b : ℕ) (bs : List ℕ) → is_word_byte b ≡ true
    → Begins offset (b ∷ bs) (word_len (b ∷ bs))
run offset b [] letter =
    subst (λ (n : ℕ). Begins offset (b ∷ []) n) (sym (one_longer b [] letter))
    (other offset b [] (word_byte_no_gap b letter) (rw letter refl))
run offset b (c ∷ cs) letter = elim (cases_Bool (is_word_byte c)) [
  | inl e ↦
      let K = word_len (c ∷ cs) in
      let j : (offset + 1) + K ≡ offset + suc K = omega arith in
      let whole : Begins offset (b ∷ c ∷ cs) (suc K) = lengthened offset b (c ∷ cs) letter e
      ∙ ap (lengthen offset b) (run (offset + 1) c cs e)
      ∙ ap (λ (m : ℕ). record { start = offset; bytes = b ∷ take K (c ∷ cs) }
      ∷ tokens_from m (drop K (c ∷ cs))) j in
      subst (λ (n : ℕ). Begins offset (b ∷ c ∷ cs) n) (sym (one_longer b (c ∷ cs) letter)) whole
  | inr e ↦
      let none : word_len (c ∷ cs) ≡ 0 = rw e refl in
      let one : 1 ≡ word_len (b ∷ c ∷ cs) = sym (one_longer b (c ∷ cs) letter ∙ ap suc none) in
      subst (λ (n : ℕ). Begins offset (b ∷ c ∷ cs) n) one
      (other offset b (c ∷ cs) (word_byte_no_gap b letter) (rw (letter, e) refl))
]

pub letters : (text : List ℕ) (offset : ℕ) → 0 < length text → is_word_byte (get_or text 0 0) ≡ true
    → Begins offset text (word_len text)
letters [] offset some letter = absurd (omega arith)
letters (b ∷ bs) offset some letter = run offset b bs letter

pub letters_some : (text : List ℕ) → 0 < length text → is_word_byte (get_or text 0 0) ≡ true
    → 0 < word_len text
letters_some [] some letter = absurd (omega arith)
letters_some (b ∷ bs) some letter = omega (arith, one_longer b bs letter)

pub single : (text : List ℕ) (offset : ℕ) → 0 < length text → is_gap (get_or text 0 0) ≡ false
    → is_word_byte (get_or text 0 0) ≡ false → Begins offset text 1
single [] offset some mark letter = absurd (omega arith)
single (b ∷ bs) offset some mark letter = other offset b bs mark (rw letter refl)

-- the next token of a text, from an offset on
pub next : (text rest from : List ℕ) (offset gap len : ℕ) → rest ≡ drop offset text
    → from ≡ drop gap rest → tokens_from offset rest ≡ tokens_from (offset + gap) (drop gap rest)
    → Begins (offset + gap) from len
    → tokens_from offset (drop offset text) ≡ record { start = offset + gap; bytes = take len from }
    ∷ tokens_from ((offset + gap) + len) (drop ((offset + gap) + len) text)
next text rest from offset gap len rest-is from-is skipped begins =
    let back : drop len from ≡ drop ((offset + gap) + len) text =
    ap (drop len) (from-is ∙ ap (drop gap) rest-is ∙ drop-drop gap offset text)
    ∙ drop-drop len (offset + gap) text in
    ap (tokens_from offset) (sym rest-is) ∙ skipped ∙ ap (tokens_from (offset + gap)) (sym from-is)
    ∙ begins
    ∙ ap (λ (xs : List ℕ). record { start = offset + gap; bytes = take len from }
    ∷ tokens_from ((offset + gap) + len) xs) back
