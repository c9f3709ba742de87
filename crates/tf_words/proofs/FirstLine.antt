-- The first line of a text, read from its front.
use Rattle.std.proofs.Common.{◌≡◌, ℕ, ◌+◌, ◌-◌, ◌<◌, ◌≤◌, true, false, not, eqb, List, [], ◌∷◌, ◌++◌, length, map, get_or, take, drop, refl, sym, ap, ◌∙◌, arith, inl, inr}
use Rattle.std.specs.List.{onto_first, list_all}
use Rattle.std.specs.Char.{is_ascii_digit}
use Rattle.std.specs.Str.{bytes_eq}
use Rattle.std.proofs.lemmas.Bool.{cases_Bool, ltb-true, ne_eqb, and_parts, and_from}
use Rattle.std.proofs.lemmas.List.{append-nil, length-append, take-append-drop, take_all}
use Rattle.std.proofs.lemmas.Slice.Eq.{bytes_eq-Decides}
use Rattle.tf_words.specs.Digits.{is_numeral}
use Rattle.tf_words.specs.Words.{is_white, words, lines, is_kept, kept_lines, by_words}
use Rattle.tf_words.specs.FirstLine.{first_words, line_words, lines_behind, BeginsWhite, IsWordBefore, IsLineEnd}
use Rattle.tf_words.proofs.Stream.{IsWordBytes, before_first_line, words_white, word_alone, word_before, word_lines, at_white}
use Rattle.tf_words.proofs.DigitsRead.{digit_is}

-- ---- the front of a text

-- a text whose first byte is b, by that byte and the rest
pub begins_with : (text rest : List ℕ) (b : ℕ) → 1 ≤ length text → get_or text 0 0 ≡ b
    → rest ≡ take (length text - 1) (drop 1 text) → text ≡ b ∷ rest
begins_with [] rest b some first is = absurd (omega arith)
begins_with (c ∷ cs) rest b some first is =
    let all : take (length (c ∷ cs) - 1) cs ≡ cs = take_all _ cs (omega arith) in
    let same : rest ≡ cs = is ∙ all in
    cc

-- and by its first two
pub begins_with_two : (text rest : List ℕ) (a b : ℕ) → 2 ≤ length text → get_or text 0 0 ≡ a
    → get_or text 1 0 ≡ b → rest ≡ take (length text - 2) (drop 2 text) → text ≡ a ∷ b ∷ rest
begins_with_two [] rest a b some first second is = absurd (omega arith)
begins_with_two (c ∷ []) rest a b some first second is = absurd (omega arith)
begins_with_two (c ∷ d ∷ more) rest a b some first second is =
    let all : take (length (c ∷ d ∷ more) - 2) more ≡ more = take_all _ more (omega arith) in
    let same : rest ≡ more = is ∙ all in
    cc

-- a text cut behind its first bytes, which are the key
pub key_front : (text front rest key : List ℕ) (k : ℕ) → front ≡ take k text → rest ≡ drop k text
    → bytes_eq front key ≡ true → text ≡ key ++ rest
key_front text front rest key k front-is rest-is same =
    let e : front ≡ key = (bytes_eq-Decides front key).0 same in
    sym (take-append-drop k text) ∙ rw (← front-is, ← rest-is, e) refl

-- a numeral has a digit, and digits alone
pub numeral_parts : (digits : List ℕ) → is_numeral digits ≡ true
    → (0 < length digits) × (list_all is_ascii_digit digits ≡ true)
numeral_parts digits h = let both = and_parts _ _ h in (ltb-true _ _ both.0, both.1)

-- ---- a word

-- of a line that goes on after its first word
on_line : (c b : ℕ) (word : List ℕ) (ls : List (List ℕ)) → IsWordBytes (c ∷ word)
    → is_white b ≡ true
    → (first_words (before_first_line (c ∷ word) (onto_first b ls))
    ≡ (c ∷ word) ∷ first_words (onto_first b ls))
    × (drop 1 (before_first_line (c ∷ word) (onto_first b ls)) ≡ drop 1 (onto_first b ls))
on_line c b word [] h white = (word_before c b word [] h white, refl)
on_line c b word (l ∷ ls) h white = (word_before c b word l h white, refl)

-- and of one that ends with it
at_end : (c : ℕ) (word : List ℕ) (ls : List (List ℕ)) → IsWordBytes (c ∷ word)
    → first_words (before_first_line (c ∷ word) ([] ∷ ls)) ≡ (c ∷ word) ∷ first_words ([] ∷ ls)
unfolding words
at_end c word ls h = ap words (append-nil (c ∷ word)) ∙ word_alone c word h

-- the first line of a text that is a word and then white space
then_white : (c b : ℕ) (word rest : List ℕ) → IsWordBytes (c ∷ word) → is_white b ≡ true
    → (line_words (c ∷ (word ++ b ∷ rest)) ≡ (c ∷ word) ∷ line_words (b ∷ rest))
    × (lines_behind (c ∷ (word ++ b ∷ rest)) ≡ lines_behind (b ∷ rest))
unfolding line_words lines_behind
then_white c b word rest h white =
    let all = word_lines c word (b ∷ rest) h in elim (cases_Bool (eqb b 10)) [
      | inl e ↦ let k = (at_white b rest).0 e in (
        ap first_words (all ∙ ap (before_first_line (c ∷ word)) k)
            ∙ at_end c word (lines rest) h
            ∙ ap (λ ls. (c ∷ word) ∷ first_words ls) (sym k),
        ap (drop 1) (all ∙ ap (before_first_line (c ∷ word)) k) ∙ ap (drop 1) (sym k),
      )
      | inr e ↦
          let k = (at_white b rest).1 e in
          let on = on_line c b word (lines rest) h white in (
            ap first_words (all ∙ ap (before_first_line (c ∷ word)) k) ∙ on.0
                ∙ ap (λ ls. (c ∷ word) ∷ first_words ls) (sym k),
            ap (drop 1) (all ∙ ap (before_first_line (c ∷ word)) k) ∙ on.1
                ∙ ap (drop 1) (sym k),
          )
    ]

-- a word, and white space behind it
pub word_first : (text word rest : List ℕ) → text ≡ word ++ rest → 0 < length word
    → IsWordBytes word → BeginsWhite rest → IsWordBefore text word rest
word_first text [] rest is some h begins = absurd (omega arith)
word_first text (c ∷ word) rest is some h begins =
    let t = then_white c begins.byte word begins.more h begins.white in
    let whole : text ≡ c ∷ (word ++ begins.byte ∷ begins.more) =
    is ∙ ap (λ bs. c ∷ (word ++ bs)) begins.is in
    record {
      words = ap line_words whole ∙ t.0 ∙ ap (λ bs. (c ∷ word) ∷ line_words bs) (sym begins.is);
      behind = ap lines_behind whole ∙ t.1 ∙ ap lines_behind (sym begins.is);
      shorter = omega (arith, ap length is, length-append word rest);
    }

-- ---- a blank before it

-- a white byte before lines is no part of a word
white_onto : (b : ℕ) (ls : List (List ℕ)) → is_white b ≡ true
    → (first_words (onto_first b ls) ≡ first_words ls) × (drop 1 (onto_first b ls) ≡ drop 1 ls)
unfolding words
white_onto b [] white = (words_white b [] white, refl)
white_onto b (l ∷ ls) white = (words_white b l white, refl)

-- a white byte before a text, but for a line feed, changes neither the words of its first line nor
-- the lines behind it
white_first : (b : ℕ) (rest : List ℕ) → is_white b ≡ true → eqb b 10 ≡ false
    → (line_words (b ∷ rest) ≡ line_words rest) × (lines_behind (b ∷ rest) ≡ lines_behind rest)
unfolding line_words lines_behind
white_first b rest white other =
    let k = (at_white b rest).1 other in
    let on = white_onto b (lines rest) white in
    (ap first_words k ∙ on.0, ap (drop 1) k ∙ on.1)

-- a word behind a blank
pub behind_blank : (text from word rest : List ℕ) → text ≡ 32 ∷ from → IsWordBefore from word rest
    → IsWordBefore text word rest
behind_blank text from word rest is before =
    let b = white_first 32 from refl refl in
    record {
      words = ap line_words is ∙ b.0 ∙ before.words;
      behind = ap lines_behind is ∙ b.1 ∙ before.behind;
      shorter = omega (arith, ap length is, before.shorter);
    }

-- ---- the end of the line

-- a line feed ends a line without a word
pub line_ends : (text rest : List ℕ) → text ≡ 10 ∷ rest → IsLineEnd text rest
unfolding line_words lines_behind words
line_ends text rest is =
    let k = (at_white 10 rest).0 refl in
    record {
      words = ap line_words is ∙ ap first_words k;
      behind = ap lines_behind is ∙ ap (drop 1) k;
      shorter = omega (arith, ap length is);
    }

-- and so do a carriage return and a line feed
pub return_ends : (text rest : List ℕ) → text ≡ 13 ∷ 10 ∷ rest → IsLineEnd text rest
return_ends text rest is =
    let white = white_first 13 (10 ∷ rest) refl refl in
    let end = line_ends (10 ∷ rest) rest refl in
    record {
      words = ap line_words is ∙ white.0 ∙ end.words;
      behind = ap lines_behind is ∙ white.1 ∙ end.behind;
      shorter = omega (arith, ap length is);
    }

-- ---- digits

-- a digit is no white space
digit_dark : (d : ℕ) → is_ascii_digit d ≡ true → not (is_white d) ≡ true
digit_dark d h =
    let low = (digit_is d h).0 in
    let a : eqb d 32 ≡ false = ne_eqb d 32 (λ e. omega (arith, low, e)) in
    let b : eqb d 9 ≡ false = ne_eqb d 9 (λ e. omega (arith, low, e)) in
    let c : eqb d 13 ≡ false = ne_eqb d 13 (λ e. omega (arith, low, e)) in
    let f : eqb d 10 ≡ false = ne_eqb d 10 (λ e. omega (arith, low, e)) in
    rw (a, b, c, f) refl

-- digits are no white space
pub digits_dark : (ds : List ℕ) → list_all is_ascii_digit ds ≡ true → IsWordBytes ds
digits_dark [] h = refl
digits_dark (d ∷ ds) h = let both = and_parts _ _ h in
    and_from _ _ (digit_dark d both.0) (digits_dark ds both.1)

-- ---- the line among the lines that are kept

-- the first of some lines is the first that is kept
abbrev pub StandsFirst : ℕ → List (List ℕ) → Type 0
StandsFirst n ls = (bytes : List ℕ) × (words bytes ≡ first_words ls)
    × (kept_lines n ls ≡ record { number = n; bytes = bytes } ∷ kept_lines (n + 1) (drop 1 ls))

-- a first line with a word that is no comment is kept
pub stands_first : (n : ℕ) (ls : List (List ℕ)) → is_kept (first_words ls) ≡ true → StandsFirst n ls
unfolding kept_lines
stands_first n [] h = cc
stands_first n (l ∷ ls) h = (l, refl, rw h refl)

-- the same by the words of the lines
pub by_words_first : (n : ℕ) (ls : List (List ℕ)) → is_kept (first_words ls) ≡ true
    → map by_words (kept_lines n ls) ≡ record { number = n; words = first_words ls }
    ∷ map by_words (kept_lines (n + 1) (drop 1 ls))
unfolding kept_lines
by_words_first n [] h = cc
by_words_first n (l ∷ ls) h = rw h refl
