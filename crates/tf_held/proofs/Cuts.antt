-- The words of a text in two parts, of which the second begins with white space or is empty.
use Rattle.std.proofs.Common.{◌≡◌, ℕ, ◌+◌, ◌<◌, ◌≤◌, true, not, List, [], ◌∷◌, ◌++◌, length, map, get_or, take, drop, Some, None, refl, sym, ap, subst, ◌∙◌, arith, append-nil, drop-cons, length-drop}
use Rattle.std.specs.List.{position, position_or_len}
use Rattle.std.proofs.lemmas.List.{drop-drop, drop_all, length-append, take-append-drop, take_all}
use Rattle.std.proofs.Math.Seq.{drop-append_seam}
use Rattle.std.proofs.lemmas.List.Sums.{passes_at_first}
use Rattle.tf_words.specs.Words.{Word, is_white, words, placed_words}
use Rattle.tf_words.proofs.Parts.{first_last, first_then, gap_only, is_place}
use Rattle.tf_words.proofs.Stream.{words_white}
use Rattle.tf_bounding.proofs.PlacedWords.{placed_from, words_split}
use Rattle.tf_held.specs.Cuts.{IsBehindWord, EndsWord}

-- ---- words

pub words_append : (front rest : List ℕ) → IsBehindWord rest
    → words (front ++ rest) ≡ words front ++ words rest
unfolding words
words_append front [] is = ap words (append-nil front) ∙ sym (append-nil (words front))
words_append front (b ∷ rest) is =
    words_split front b rest is ∙ ap (λ ws. words front ++ ws) (sym (words_white b rest is))

pub placed_bytes : (text : List ℕ) → map (λ (w : Word). w.bytes) (placed_words text) ≡ words text
unfolding placed_words
placed_bytes text = placed_from 1 text

-- ---- so many words

module _ (text : List ℕ) (k : ℕ) (at : position (λ b. not (is_white b)) text ≡ Some k) where
  -- the first word ends before white space
  pub ends_before : (n : ℕ) → position is_white (drop k text) ≡ Some n → EndsWord text (k + n)
  unfolding words
  ends_before n found =
      let from = drop k text in
      let first : words text ≡ take n from ∷ words (drop n from) =
      (first_then is_white text from (take n from) (drop n from) k n at refl found refl refl).0 in
      let place = is_place (position_or_len is_white from) (length from) n found in
      let within : n < length from = omega (arith, place.0, place.1) in
      let white : is_white (get_or from n 0) ≡ true =
      subst (λ (m : ℕ). is_white (get_or from m 0) ≡ true) place.1
      (passes_at_first is_white from 0 place.0) in
      let same : drop n from ≡ drop (k + n) text = drop-drop n k text in
      record {
        within = omega (arith, within, length-drop k text);
        behind = subst IsBehindWord (sym (drop-cons from n 0 within) ∙ same) white;
        one = omega (arith, ap length first, ap (λ ys. length (words ys)) same);
      }

  -- or with the text
  pub ends_last : position is_white (drop k text) ≡ None → EndsWord text (length text)
  unfolding words
  ends_last none =
      let first : words text ≡ drop k text ∷ [] =
      first_last is_white text (drop k text) k at refl none in
      let rest : drop (length text) text ≡ [] = drop_all (length text) text (omega arith) in
      record {
        within = omega arith;
        behind = subst IsBehindWord (sym rest) tt;
        one = omega (arith, ap length first, ap (λ ys. length (words ys)) rest);
      }

-- the first part has so many words
pub record HasPassed (text : List ℕ) (count at : ℕ) : Type 0 where
  pub within : at ≤ length text
  pub both : words text ≡ words (take at text) ++ words (drop at text)
  pub count_is : length (words (take at text)) ≡ count

pub none_passed : (text : List ℕ) → HasPassed text 0 0
unfolding words
none_passed text = record { within = omega arith; both = refl; count_is = refl }

module _ (text : List ℕ) (count at : ℕ) (passed : HasPassed text count at) where
  -- one word more
  pub one_passed : (n : ℕ) → EndsWord (drop at text) n → HasPassed text (count + 1) (at + n)
  one_passed n ends =
      let same : drop n (drop at text) ≡ drop (at + n) text = drop-drop n at text in
      let both : words text ≡ words (take (at + n) text) ++ words (drop (at + n) text) =
      ap words (sym (take-append-drop (at + n) text))
      ∙ words_append (take (at + n) text) (drop (at + n) text) (subst IsBehindWord same ends.behind) in
      record {
        within = omega (arith, ends.within, passed.within, length-drop at text);
        both = both;
        count_is = omega (
          arith,
          ap length both,
          ap length passed.both,
          length-append (words (take (at + n) text)) (words (drop (at + n) text)),
          length-append (words (take at text)) (words (drop at text)),
          ends.one,
          ap (λ ys. length (words ys)) same,
          passed.count_is,
        );
      }

  pub rest_is : words (drop at text) ≡ drop count (words text)
  rest_is =
      sym (ap (drop count) passed.both
      ∙ ap (λ m. drop m (words (take at text) ++ words (drop at text))) (sym passed.count_is)
      ∙ drop-append_seam (words (take at text)) (words (drop at text)))

  -- or fewer, where there are no more
  module _ (wanted : ℕ) (less : count ≤ wanted) (none : words (drop at text) ≡ []) where
    few : length (words text) ≤ wanted
    few = omega (
      arith,
      ap length passed.both,
      length-append (words (take at text)) (words (drop at text)),
      ap length none,
      passed.count_is,
      less,
    )

    pub all_is : words text ≡ take wanted (words text)
    all_is = sym (take_all wanted (words text) few)

    pub none_is : words (drop at text) ≡ drop wanted (words text)
    none_is = none ∙ sym (drop_all wanted (words text) few)

-- a text without a word
pub no_word : (text : List ℕ) → position (λ b. not (is_white b)) text ≡ None → words text ≡ []
unfolding words
no_word text none = gap_only is_white text none
