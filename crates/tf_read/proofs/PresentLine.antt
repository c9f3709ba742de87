-- A line of a text, byte by byte.
use Rattle.std.proofs.Common.{◌≡◌, ℕ, ◌<◌, true, false, not, eqb, List, [], ◌∷◌, ◌++◌, length, refl, sym, ap, ◌∙◌, arith, inl, inr, append_assoc, length-append}
use Rattle.std.specs.List.{onto_first}
use Rattle.std.proofs.lemmas.Bool.{cases_Bool, and_parts, not-true}
use Rattle.std.proofs.lemmas.List.{append-nil}
use Rattle.std.proofs.lemmas.List.Folds.{list_all-append}
use Rattle.tf_words.specs.Words.{is_white, words, lines}
use Rattle.tf_words.proofs.Stream.{IsWordBytes, words_white, word_alone, word_before}
use Rattle.tf_read.specs.PresentLine.{AreOfLine, IsInLine}

-- before the first byte
pub no_byte : IsInLine [] [] []
no_byte = record { one_word = refl; goes_on = λ more. refl }

word_with : (word : List ℕ) (b : ℕ) → IsWordBytes word → is_white b ≡ false
    → IsWordBytes (word ++ b ∷ [])
word_with word b one black = list_all-append (λ c. not (is_white c)) word (b ∷ [])
    ∙ rw (one, black) refl

-- a byte of a word
pub with_letter : (bytes : List ℕ) (seen : List (List ℕ)) (word : List ℕ) (b : ℕ)
    → is_white b ≡ false → IsInLine bytes seen word
    → IsInLine (bytes ++ b ∷ []) seen (word ++ b ∷ [])
with_letter bytes seen word b black at = record {
  one_word = word_with word b at.one_word black;
  goes_on = λ more. ap words (append_assoc bytes (b ∷ []) more) ∙ at.goes_on (b ∷ more)
      ∙ ap (λ bs. seen ++ words bs) (sym (append_assoc word (b ∷ []) more));
}

-- a white byte between words
pub with_gap : (bytes : List ℕ) (seen : List (List ℕ)) (b : ℕ) → is_white b ≡ true
    → IsInLine bytes seen [] → IsInLine (bytes ++ b ∷ []) seen []
with_gap bytes seen b white at = record {
  one_word = refl;
  goes_on = λ more. ap words (append_assoc bytes (b ∷ []) more) ∙ at.goes_on (b ∷ more)
      ∙ ap (λ ws. seen ++ ws) (words_white b more white);
}

-- a white byte behind a word
word_then : (word : List ℕ) (b : ℕ) (more : List ℕ) → 0 < length word → IsWordBytes word
    → is_white b ≡ true → words (word ++ (b ∷ more)) ≡ word ∷ words more
word_then [] b more some one white = absurd (omega (arith, some))
word_then (c ∷ cs) b more some one white = word_before c b cs more one white
    ∙ ap (λ ws. (c ∷ cs) ∷ ws) (words_white b more white)

pub with_end : (bytes : List ℕ) (seen : List (List ℕ)) (word : List ℕ) (b : ℕ) → 0 < length word
    → is_white b ≡ true → IsInLine bytes seen word
    → IsInLine (bytes ++ b ∷ []) (seen ++ word ∷ []) []
with_end bytes seen word b some white at = record {
  one_word = refl;
  goes_on = λ more. ap words (append_assoc bytes (b ∷ []) more) ∙ at.goes_on (b ∷ more)
      ∙ ap (λ ws. seen ++ ws) (word_then word b more some at.one_word white)
      ∙ sym (append_assoc seen (word ∷ []) (words more));
}

-- the end of the line
one_alone : (word : List ℕ) → 0 < length word → IsWordBytes word → words word ≡ word ∷ []
one_alone [] some one = absurd (omega (arith, some))
one_alone (c ∷ cs) some one = word_alone c cs one

pub words_at_gap : (bytes : List ℕ) (seen : List (List ℕ)) → IsInLine bytes seen []
    → words bytes ≡ seen
unfolding words
words_at_gap bytes seen at = ap words (sym (append-nil bytes)) ∙ at.goes_on [] ∙ append-nil seen

pub words_in_word : (bytes : List ℕ) (seen : List (List ℕ)) (word : List ℕ) → 0 < length word
    → IsInLine bytes seen word → words bytes ≡ seen ++ word ∷ []
words_in_word bytes seen word some at = ap words (sym (append-nil bytes)) ∙ at.goes_on []
    ∙ ap (λ bs. seen ++ words bs) (append-nil word)
    ∙ ap (λ ws. seen ++ ws) (one_alone word some at.one_word)

-- however the line goes on, the bytes of a word begin it
word_grows : (word : List ℕ) → 0 < length word → IsWordBytes word → (more : List ℕ)
    → (rest : List ℕ) × (ws : List (List ℕ)) × (words (word ++ more) ≡ (word ++ rest) ∷ ws)
word_grows word some one [] = (
  [],
  [],
  ap words (append-nil word) ∙ one_alone word some one
      ∙ ap (λ w. w ∷ []) (sym (append-nil word)),
)
word_grows word some one (b ∷ more) = elim (cases_Bool (is_white b)) [
  | inl white ↦ (
    [],
    words more,
    word_then word b more some one white
        ∙ ap (λ w. w ∷ words more) (sym (append-nil word)),
  )
  | inr black ↦
      let h = word_grows (word ++ b ∷ []) (omega (arith, length-append word (b ∷ [])))
      (word_with word b one black) more in (
        b ∷ h.0,
        h.1,
        ap words (sym (append_assoc word (b ∷ []) more)) ∙ h.2
            ∙ ap (λ w. w ∷ h.1) (append_assoc word (b ∷ []) h.0),
      )
]

pub grows : (bytes : List ℕ) (seen : List (List ℕ)) (word : List ℕ) (b : ℕ) → is_white b ≡ false
    → IsInLine bytes seen word → (more : List ℕ)
    → (rest : List ℕ) × (ws : List (List ℕ))
    × (words (bytes ++ b ∷ [] ++ more) ≡ seen ++ (word ++ b ∷ [] ++ rest) ∷ ws)
grows bytes seen word b black at more =
    let next = with_letter bytes seen word b black at in
    let h = word_grows (word ++ b ∷ []) (omega (arith, length-append word (b ∷ []))) next.one_word
    more in
    (h.0, h.1, next.goes_on more ∙ ap (λ ws. seen ++ ws) h.2)

-- the lines of a text that begins with these bytes
pub line_over : (bytes more : List ℕ) → AreOfLine bytes
    → lines (bytes ++ (10 ∷ more)) ≡ bytes ∷ lines more
unfolding lines
line_over [] more all = refl
line_over (c ∷ cs) more all =
    let p = and_parts _ _ all in
    let other : eqb c 10 ≡ false = not-true _ p.0 in
    rw other (ap (onto_first c) (line_over cs more p.1))

pub line_last : (c : ℕ) (cs : List ℕ) → AreOfLine (c ∷ cs) → lines (c ∷ cs) ≡ (c ∷ cs) ∷ []
unfolding lines
line_last c [] all = let other : eqb c 10 ≡ false = not-true _ (and_parts _ _ all).0 in
    rw other refl
line_last c (d ∷ ds) all =
    let p = and_parts _ _ all in
    let other : eqb c 10 ≡ false = not-true _ p.0 in
    rw other (ap (onto_first c) (line_last d ds p.1))
