-- The words of a text, byte by byte: what is known of a text whose beginning was read.
use Rattle.std.proofs.Common.{◌≡◌, ℕ, ◌+◌, true, false, not, eqb, ltb, List, [], ◌∷◌, ◌++◌, length, map, refl, sym, ap, subst, ◌∙◌, arith, inl, inr}
use Rattle.std.specs.List.{onto_first, filter, list_all, All}
use Rattle.std.proofs.lemmas.Bool.{cases_Bool, eqb-true, lt-ltb, not-true, and_parts, false≢true}
use Rattle.std.proofs.lemmas.List.{append-nil}
use Rattle.std.proofs.lemmas.List.Sums.{AllPass-from_list_all}
use Rattle.std.proofs.lemmas.List.Splits.{slice_split_at, slice_split_none}
use Rattle.tf_words.specs.Words.{Word, is_white, words, lines, words_from}
use Rattle.tf_words.proofs.Parts.{parts-yes}

-- a white byte before a line is no part of a word
pub words_white : (b : ℕ) (line : List ℕ) → is_white b ≡ true → words (b ∷ line) ≡ words line
unfolding words
words_white b line white = parts-yes is_white b line white

abbrev at_line : ℕ → List (List ℕ) → List Word
at_line n ws = map (λ w. record { line = n; bytes = w }) ws

onto_white : (n b : ℕ) (ls : List (List ℕ)) → is_white b ≡ true
    → words_from n (onto_first b ls) ≡ words_from n ls
unfolding words_from words
onto_white n b [] white = ap (λ ws. at_line n ws ++ []) (words_white b [] white)
onto_white n b (l ∷ ls) white =
    ap (λ ws. at_line n ws ++ words_from (n + 1) ls) (words_white b l white)

-- a white byte that is no line feed
pub gap_byte : (n b : ℕ) (rest : List ℕ) → is_white b ≡ true → eqb b 10 ≡ false
    → words_from n (lines (b ∷ rest)) ≡ words_from n (lines rest)
unfolding lines
gap_byte n b rest white other = rw other (onto_white n b (lines rest) white)

-- a line feed
pub line_feed : (n : ℕ) (rest : List ℕ)
    → words_from n (lines (10 ∷ rest)) ≡ words_from (n + 1) (lines rest)
unfolding lines words_from words
line_feed n rest = refl

-- the bytes of a word before a text stand before its first line
abbrev pub before_first_line : List ℕ → List (List ℕ) → List (List ℕ)
before_first_line word [] = word ∷ []
before_first_line word (l ∷ ls) = (word ++ l) ∷ ls

abbrev pub IsWordBytes : List ℕ → Type 0
IsWordBytes word = list_all (λ b. not (is_white b)) word ≡ true

no_feed : (b : ℕ) → not (is_white b) ≡ true → eqb b 10 ≡ false
no_feed b h = elim (cases_Bool (eqb b 10)) [
  | inr e ↦ e
  | inl e ↦ absurd (false≢true (subst (λ (c : ℕ). not (is_white c) ≡ true) (eqb-true b 10 e) h))
]

onto_before : (c : ℕ) (word : List ℕ) (ls : List (List ℕ))
    → onto_first c (before_first_line word ls) ≡ before_first_line (c ∷ word) ls
onto_before c word [] = refl
onto_before c word (l ∷ ls) = refl

onto_one : (c : ℕ) (ls : List (List ℕ)) → onto_first c ls ≡ before_first_line (c ∷ []) ls
onto_one c [] = refl
onto_one c (l ∷ ls) = refl

goes_on : (c : ℕ) (bs : List ℕ) → not (is_white c) ≡ true → lines (c ∷ bs) ≡ onto_first c (lines bs)
unfolding lines
goes_on c bs h = rw (no_feed c h) refl

pub word_lines : (c : ℕ) (word text : List ℕ) → IsWordBytes (c ∷ word)
    → lines (c ∷ (word ++ text)) ≡ before_first_line (c ∷ word) (lines text)
word_lines c [] text h = goes_on c text (and_parts _ _ h).0 ∙ onto_one c (lines text)
word_lines c (d ∷ word) text h = goes_on c (d ∷ (word ++ text)) (and_parts _ _ h).0
    ∙ ap (onto_first c) (word_lines d word text (and_parts _ _ h).1)
    ∙ onto_before c (d ∷ word) (lines text)

all_no_white : (word : List ℕ) → IsWordBytes word → All (λ x. is_white x ≡ false) word
all_no_white word h =
    λ k d lt. not-true _ (AllPass-from_list_all (λ b. not (is_white b)) word h k d lt)

pub word_alone : (c : ℕ) (word : List ℕ) → IsWordBytes (c ∷ word)
    → words (c ∷ word) ≡ (c ∷ word) ∷ []
unfolding words
word_alone c word h =
    let some : ltb 0 (length (c ∷ word)) ≡ true = lt-ltb _ _ (omega arith) in
    ap (filter (λ part. ltb 0 (length part)))
    (slice_split_none is_white (c ∷ word) (all_no_white (c ∷ word) h)) ∙ rw some refl

pub word_before : (c b : ℕ) (word line : List ℕ) → IsWordBytes (c ∷ word) → is_white b ≡ true
    → words ((c ∷ word) ++ (b ∷ line)) ≡ (c ∷ word) ∷ words (b ∷ line)
unfolding words
word_before c b word line h white =
    let some : ltb 0 (length (c ∷ word)) ≡ true = lt-ltb _ _ (omega arith) in
    ap (filter (λ part. ltb 0 (length part)))
    (slice_split_at is_white (c ∷ word) b line (all_no_white (c ∷ word) h) white)
    ∙ rw some (ap (λ ws. (c ∷ word) ∷ ws) (sym (parts-yes is_white b line white)))

first_line_ends : (n c b : ℕ) (word : List ℕ) (ls : List (List ℕ)) → IsWordBytes (c ∷ word)
    → is_white b ≡ true
    → words_from n (before_first_line (c ∷ word) (onto_first b ls))
    ≡ record { line = n; bytes = c ∷ word } ∷ words_from n (onto_first b ls)
unfolding words_from
first_line_ends n c b word [] h white =
    ap (λ ws. at_line n ws ++ []) (word_before c b word [] h white)
first_line_ends n c b word (l ∷ ls) h white =
    ap (λ ws. at_line n ws ++ words_from (n + 1) ls) (word_before c b word l h white)

empty_line_ends : (n c : ℕ) (word : List ℕ) (ls : List (List ℕ)) → IsWordBytes (c ∷ word)
    → words_from n (before_first_line (c ∷ word) ([] ∷ ls)) ≡ record { line = n; bytes = c ∷ word }
    ∷ words_from n ([] ∷ ls)
unfolding words_from words
empty_line_ends n c word ls h =
    ap (λ ws. at_line n ws ++ words_from (n + 1) ls)
    (ap words (append-nil (c ∷ word)) ∙ word_alone c word h)

pub at_white : (b : ℕ) (rest : List ℕ)
    → (eqb b 10 ≡ true → lines (b ∷ rest) ≡ [] ∷ lines rest)
    × (eqb b 10 ≡ false → lines (b ∷ rest) ≡ onto_first b (lines rest))
unfolding lines
at_white b rest = (λ e. rw e refl, λ e. rw e refl)

-- a white byte ends the word that was read
pub word_ends : (n c b : ℕ) (word rest : List ℕ) → IsWordBytes (c ∷ word) → is_white b ≡ true
    → words_from n (lines (c ∷ (word ++ (b ∷ rest)))) ≡ record { line = n; bytes = c ∷ word }
    ∷ words_from n (lines (b ∷ rest))
word_ends n c b word rest h white =
    ap (words_from n) (word_lines c word (b ∷ rest) h) ∙ elim (cases_Bool (eqb b 10)) [
      | inl e ↦ let k = (at_white b rest).0 e in
          ap (λ ls. words_from n (before_first_line (c ∷ word) ls)) k
          ∙ empty_line_ends n c word (lines rest) h
          ∙ ap (λ ls. record { line = n; bytes = c ∷ word } ∷ words_from n ls) (sym k)
      | inr e ↦ let k = (at_white b rest).1 e in
          ap (λ ls. words_from n (before_first_line (c ∷ word) ls)) k
          ∙ first_line_ends n c b word (lines rest) h white
          ∙ ap (λ ls. record { line = n; bytes = c ∷ word } ∷ words_from n ls) (sym k)
    ]

-- and so does the end of the text
pub word_last : (n c : ℕ) (word : List ℕ) → IsWordBytes (c ∷ word)
    → words_from n (lines (c ∷ (word ++ []))) ≡ record { line = n; bytes = c ∷ word } ∷ []
unfolding lines words_from
word_last n c word h = ap (words_from n) (word_lines c word [] h)
    ∙ ap (λ ws. at_line n ws ++ []) (word_alone c word h)

pub nothing_left : (n : ℕ) → words_from n (lines []) ≡ []
unfolding lines words_from
nothing_left n = refl
