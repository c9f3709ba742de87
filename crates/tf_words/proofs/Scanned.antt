-- The words of a text, byte by byte.
use Rattle.std.proofs.Common.{◌≡◌, ℕ, ◌+◌, ◌≤◌, Bool, true, false, not, cond, eqb, ltb, pos, neg_ℤ, List, [], ◌∷◌, ◌++◌, length, refl, sym, ap, ◌∙◌, arith, inl, inr, append_assoc, length-append}
use Rattle.std.specs.List.{list_all}
use Rattle.std.specs.Char.{is_ascii_digit}
use Rattle.std.specs.Str.Parse.{digits_value}
use Rattle.std.proofs.lemmas.Bool.{cases_Bool, lt-ltb, eqb-true}
use Rattle.std.proofs.lemmas.Int.{ints}
use Rattle.std.proofs.lemmas.List.{append-nil}
use Rattle.tf_words.specs.Words.{Word, is_white, lines, words_from}
use Rattle.tf_words.specs.Digits.{signed, cut, written, numeral}
use Rattle.tf_words.specs.Ranged.{judged, placed}
use Rattle.tf_words.specs.Number.{number, limit, within_limit}
use Rattle.tf_words.specs.SoFar.{so_far, behind_sign}
use Rattle.tf_words.specs.declared.so_far.SoFar.{SoFar}
use Rattle.tf_words.specs.declared.so_far.SoFar.TheVariants.{Empty, Digits, Bad}
use Rattle.tf_words.proofs.Saturated.{saturated}
use Rattle.tf_words.proofs.Stream.{gap_byte, line_feed, word_ends, word_last, nothing_left}
use Rattle.tf_words.specs.Scan.{number_shown, line_after, IsAt, IsOf}

-- what all bytes of a word have shown is its number
shown_value : (negative : Bool) (value : ℕ)
    → number_shown (Digits negative (cut value))
    ≡ within_limit (judged (neg_ℤ (pos limit)) (pos limit) (signed negative value))
shown_value negative value =
    ap within_limit
    (saturated negative value (neg_ℤ (pos limit)) (pos limit) (omega (arith, ints))
    (omega (arith, ints)))

shown_digits : (negative : Bool) (ds : List ℕ)
    → number_shown (behind_sign negative ds)
    ≡ within_limit (placed (neg_ℤ (pos limit)) (pos limit) (written negative ds))
shown_digits negative [] = refl
shown_digits negative (d ∷ ds) =
    let some : ltb 0 (length (d ∷ ds)) ≡ true = lt-ltb _ _ (omega arith) in
    elim (cases_Bool (list_all is_ascii_digit (d ∷ ds))) [
      | inl e ↦ rw (some, e) (shown_value negative (digits_value 10 (d ∷ ds)))
      | inr e ↦ rw (some, e) refl
    ]

pub shown_number : (bytes : List ℕ) → number_shown (so_far bytes) ≡ number bytes
unfolding so_far number numeral
shown_number [] = refl
shown_number (c ∷ cs) = elim (cases_Bool (eqb c 45)) [
  | inl e ↦ rw e (shown_digits true cs)
  | inr e ↦ rw e (shown_digits false (c ∷ cs))
]

-- bytes that show nothing are none
state_shows : (negative all : Bool) (value : ℕ) → cond all (Digits negative value) Bad ≡ Empty → ⊥
state_shows negative false value h = cc
state_shows negative true value h = cc

behind_sign_shows : (negative : Bool) (ds : List ℕ) → behind_sign negative ds ≡ Empty → ⊥
behind_sign_shows negative [] h = cc
behind_sign_shows negative (d ∷ ds) h =
    state_shows negative (list_all is_ascii_digit (d ∷ ds)) (cut (digits_value 10 (d ∷ ds))) h

pub shows_nothing : (bytes : List ℕ) → so_far bytes ≡ Empty → bytes ≡ []
unfolding so_far
shows_nothing [] h = refl
shows_nothing (c ∷ cs) h = elim (cases_Bool (eqb c 45)) [
  | inl e ↦ absurd
      (behind_sign_shows true cs
      (sym (let k : so_far (c ∷ cs) ≡ behind_sign true cs = rw e refl in k) ∙ h))
  | inr e ↦ absurd
      (behind_sign_shows false (c ∷ cs)
      (sym (let k : so_far (c ∷ cs) ≡ behind_sign false (c ∷ cs) = rw e refl in k) ∙ h))
]

shows : so_far [] ≡ Empty
unfolding so_far
shows = refl

-- the front of a text
pub at_front : (first : ℕ) → IsAt first [] [] first Empty
unfolding so_far
at_front first =
    record {
      bytes = [];
      shown_by = sym shows;
      one_word = refl;
      early = omega arith;
      goes_on = λ more. refl;
    }

-- a white byte between words
gap : (line b : ℕ) (more : List ℕ) → is_white b ≡ true
    → words_from line (lines (b ∷ more)) ≡ words_from (line_after line b) (lines more)
gap line b more white = elim (cases_Bool (eqb b 10)) [
  | inl e ↦ rw e
      (ap (λ (c : ℕ). words_from line (lines (c ∷ more))) (eqb-true b 10 e) ∙ line_feed line more)
  | inr e ↦ rw e (gap_byte line b more white e)
]

after_early : (line b bound : ℕ) → line ≤ bound → line_after line b ≤ bound + 1
after_early line b bound le = elim (cases_Bool (eqb b 10)) [
  | inl e ↦ rw e (omega arith)
  | inr e ↦ rw e (omega arith)
]

pub gap_byte_read : (first : ℕ) (fed : List ℕ) (seen : List Word) (line b : ℕ) (shown : SoFar)
    → is_white b ≡ true → shown ≡ Empty → IsAt first fed seen line shown
    → IsAt first (fed ++ b ∷ []) seen (line_after line b) Empty
unfolding so_far
gap_byte_read first fed seen line b shown white none at =
    let empty : at.bytes ≡ [] = shows_nothing at.bytes (sym at.shown_by ∙ none) in
    record {
      bytes = [];
      shown_by = sym shows;
      one_word = refl;
      early = let le = after_early line b (first + length fed) at.early in
          omega (arith, le, length-append fed (b ∷ []));
      goes_on = λ more. ap (λ text. words_from first (lines text)) (append_assoc fed (b ∷ []) more)
          ∙ at.goes_on (b ∷ more)
          ∙ ap (λ bs. seen ++ words_from line (lines (bs ++ (b ∷ more)))) empty
          ∙ ap (λ ws. seen ++ ws) (gap line b more white);
    }

-- a white byte behind a word
ended : (first : ℕ) (fed : List ℕ) (seen : List Word) (line b : ℕ) (shown : SoFar)
    → is_white b ≡ true → (bytes : List ℕ) → shown ≡ so_far bytes → (bytes ≡ [] → ⊥)
    → list_all (λ c. not (is_white c)) bytes ≡ true → line ≤ first + length fed
    → ((more : List ℕ)
    → words_from first (lines (fed ++ more)) ≡ seen ++ words_from line (lines (bytes ++ more)))
    → (word : Word) × IsOf word line (number_shown shown)
    × IsAt first (fed ++ b ∷ []) (seen ++ word ∷ []) (line_after line b) Empty
ended first fed seen line b shown white [] by some one early on = absurd (some refl)
ended first fed seen line b shown white (c ∷ cs) by some one early on =
    let word : Word = record { line = line; bytes = c ∷ cs } in (
      word,
      record { line_is = refl; number_is = ap number_shown by ∙ shown_number (c ∷ cs) },
      record {
        bytes = [];
        shown_by = sym shows;
        one_word = refl;
        early = let le = after_early line b (first + length fed) early in
            omega (arith, le, length-append fed (b ∷ []));
        goes_on = λ more. ap (λ text. words_from first (lines text))
            (append_assoc fed (b ∷ []) more) ∙ on (b ∷ more)
            ∙ ap (λ ws. seen ++ ws) (word_ends line c b cs more one white)
            ∙ sym (append_assoc seen (word ∷ []) (words_from line (lines (b ∷ more))))
            ∙ ap (λ ws. (seen ++ word ∷ []) ++ ws) (gap line b more white);
      },
    )

pub ends_word : (first : ℕ) (fed : List ℕ) (seen : List Word) (line b : ℕ) (shown : SoFar)
    → is_white b ≡ true → (shown ≡ Empty → ⊥) → IsAt first fed seen line shown
    → (word : Word) × IsOf word line (number_shown shown)
    × IsAt first (fed ++ b ∷ []) (seen ++ word ∷ []) (line_after line b) Empty
ends_word first fed seen line b shown white some at =
    ended first fed seen line b shown white at.bytes at.shown_by
    (λ e. some (at.shown_by ∙ ap so_far e ∙ shows)) at.one_word at.early at.goes_on

-- the end of the text
pub nothing_more : (first : ℕ) (fed : List ℕ) (seen : List Word) (line : ℕ) (shown : SoFar)
    → shown ≡ Empty → IsAt first fed seen line shown → words_from first (lines fed) ≡ seen
nothing_more first fed seen line shown none at =
    let empty : at.bytes ≡ [] = shows_nothing at.bytes (sym at.shown_by ∙ none) in
    ap (λ text. words_from first (lines text)) (sym (append-nil fed)) ∙ at.goes_on []
    ∙ ap (λ bs. seen ++ words_from line (lines (bs ++ []))) empty
    ∙ ap (λ ws. seen ++ ws) (nothing_left line) ∙ append-nil seen

last_ended : (first : ℕ) (fed : List ℕ) (seen : List Word) (line : ℕ) (shown : SoFar)
    (bytes : List ℕ)
    → shown ≡ so_far bytes → (bytes ≡ [] → ⊥) → list_all (λ c. not (is_white c)) bytes ≡ true
    → ((more : List ℕ)
    → words_from first (lines (fed ++ more)) ≡ seen ++ words_from line (lines (bytes ++ more)))
    → (word : Word) × IsOf word line (number_shown shown)
    × (words_from first (lines fed) ≡ seen ++ word ∷ [])
last_ended first fed seen line shown [] by some one on = absurd (some refl)
last_ended first fed seen line shown (c ∷ cs) by some one on = (
  record { line = line; bytes = c ∷ cs },
  record { line_is = refl; number_is = ap number_shown by ∙ shown_number (c ∷ cs) },
  ap (λ text. words_from first (lines text)) (sym (append-nil fed)) ∙ on []
      ∙ ap (λ ws. seen ++ ws) (word_last line c cs one),
)

pub last_word : (first : ℕ) (fed : List ℕ) (seen : List Word) (line : ℕ) (shown : SoFar)
    → (shown ≡ Empty → ⊥) → IsAt first fed seen line shown
    → (word : Word) × IsOf word line (number_shown shown)
    × (words_from first (lines fed) ≡ seen ++ word ∷ [])
last_word first fed seen line shown some at =
    last_ended first fed seen line shown at.bytes at.shown_by
    (λ e. some (at.shown_by ∙ ap so_far e ∙ shows)) at.one_word at.goes_on
