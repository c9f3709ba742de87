-- A number that is read at once.
use Rattle.std.proofs.Common.{◌≡◌, ℕ, ◌≤◌, true, false, eqb, pos, List, [], ◌∷◌, ◌++◌, refl, sym, ap, subst, ◌∙◌, arith, append_assoc, length-append}
use Rattle.std.specs.List.{list_all}
use Rattle.std.specs.Char.{is_ascii_digit}
use Rattle.std.specs.Str.Parse.{digits_value}
use Rattle.std.proofs.lemmas.Bool.{eqb-true, and_parts}
use Rattle.std.proofs.lemmas.List.{append-nil}
use Rattle.std.proofs.lemmas.List.Folds.{list_all-append}
use Rattle.tf_words.specs.Words.{Word, is_white, lines, words_from}
use Rattle.tf_words.specs.Number.{limit}
use Rattle.tf_words.specs.SoFar.{so_far}
use Rattle.tf_words.specs.FirstLine.{IsNumeralOf}
use Rattle.tf_words.specs.Scan.{number_shown, line_after, AreBlanks, IsAt, IsOf}
use Rattle.tf_words.specs.declared.number.Number.TheVariants.{Value}
use Rattle.tf_words.specs.declared.so_far.SoFar.TheVariants.{Empty, Digits}
use Rattle.tf_words.proofs.FirstLine.{digits_dark, numeral_parts}
use Rattle.tf_words.proofs.Limited.{in_limit}
use Rattle.tf_words.proofs.NumeralOf.{no_minus}
use Rattle.tf_words.proofs.Scanned.{gap_byte_read, ends_word, shows_nothing}

-- blanks between words
one_blank : (first : ℕ) (fed : List ℕ) (seen : List Word) (line b : ℕ) → eqb b 32 ≡ true
    → IsAt first fed seen line Empty → IsAt first (fed ++ b ∷ []) seen line Empty
one_blank first fed seen line b blank at =
    let e : b ≡ 32 = eqb-true b 32 blank in
    subst (λ (c : ℕ). IsAt first (fed ++ c ∷ []) seen line Empty) (sym e)
    (gap_byte_read first fed seen line 32 Empty refl refl at)

pub blanks_read : (first : ℕ) (fed : List ℕ) (seen : List Word) (line : ℕ) (blanks : List ℕ)
    → AreBlanks blanks → IsAt first fed seen line Empty
    → IsAt first (fed ++ blanks) seen line Empty
blanks_read first fed seen line [] all at =
    subst (λ (bs : List ℕ). IsAt first bs seen line Empty) (sym (append-nil fed)) at
blanks_read first fed seen line (b ∷ bs) all at =
    let both = and_parts _ _ all in
    subst (λ (text : List ℕ). IsAt first text seen line Empty) (append_assoc fed (b ∷ []) bs)
    (blanks_read first (fed ++ b ∷ []) seen line bs both.1
    (one_blank first fed seen line b both.0 at))

pub blank_more : (text blanks rest next : List ℕ) → AreBlanks blanks → text ≡ blanks ++ rest
    → rest ≡ 32 ∷ next → (more : List ℕ) × AreBlanks more × (text ≡ more ++ next)
blank_more text blanks rest next all text-is rest-is = (
  blanks ++ 32 ∷ [],
  list_all-append (λ b. eqb b 32) blanks (32 ∷ []) ∙ rw all refl,
  text-is ∙ ap (λ (bs : List ℕ). blanks ++ bs) rest-is ∙ sym (append_assoc blanks (32 ∷ []) next),
)

-- what all digits of a number have shown
digits_show : (digits : List ℕ) (size : ℕ) → IsNumeralOf digits size → size ≤ limit
    → Digits false size ≡ so_far digits
unfolding so_far
digits_show [] size is few = cc
digits_show (d ∷ ds) size is few =
    let all : list_all is_ascii_digit (d ∷ ds) ≡ true = (numeral_parts (d ∷ ds) is.numeral).1 in
    let plus : eqb d 45 ≡ false = no_minus (d ∷ ds) all in
    rw (plus, all) (ap (Digits false)
    (let e : size ≡ Rattle.tf_words.specs.Digits.cut (digits_value 10 (d ∷ ds)) = omega (arith, is.value) in e))

pub digits_read : (first : ℕ) (fed : List ℕ) (seen : List Word) (line : ℕ) (digits : List ℕ)
    (size : ℕ)
    → IsNumeralOf digits size → size ≤ limit → IsAt first fed seen line Empty
    → IsAt first (fed ++ digits) seen line (Digits false size)
digits_read first fed seen line digits size is few at =
    let empty : at.bytes ≡ [] = shows_nothing at.bytes (sym at.shown_by) in
    record {
      bytes = digits;
      shown_by = digits_show digits size is few;
      one_word = digits_dark digits (numeral_parts digits is.numeral).1;
      early = omega (arith, at.early, length-append fed digits);
      goes_on = λ more. ap (λ text. words_from first (lines text)) (append_assoc fed digits more)
          ∙ at.goes_on (digits ++ more)
          ∙ ap (λ bs. seen ++ words_from line (lines (bs ++ (digits ++ more)))) empty;
    }

-- blanks, digits and a white byte
pub numeral_read : (first : ℕ) (fed : List ℕ) (seen : List Word) (line : ℕ)
    (blanks digits : List ℕ) (size b : ℕ)
    → AreBlanks blanks → IsNumeralOf digits size → size ≤ limit → is_white b ≡ true
    → IsAt first fed seen line Empty
    → (word : Word) × IsOf word line (Value (pos size))
    × IsAt first (((fed ++ blanks) ++ digits) ++ b ∷ []) (seen ++ word ∷ []) (line_after line b) Empty
numeral_read first fed seen line blanks digits size b all is few white at =
    let value : number_shown (Digits false size) ≡ Value (pos size) = in_limit size few in
    let (word, of, next) =
    ends_word first ((fed ++ blanks) ++ digits) seen line b (Digits false size) white (λ e. absurd (cc))
    (digits_read first (fed ++ blanks) seen line digits size is few
    (blanks_read first fed seen line blanks all at)) in
    (word, subst (IsOf word line) value of, next)

-- the text with them
pub numeral_fed : (fed blanks digits piece from behind rest : List ℕ) (b : ℕ)
    → piece ≡ blanks ++ from → from ≡ digits ++ behind → behind ≡ b ∷ rest
    → (((fed ++ blanks) ++ digits) ++ b ∷ []) ++ rest ≡ fed ++ piece
numeral_fed fed blanks digits piece from behind rest b piece-is from-is behind-is =
    append_assoc ((fed ++ blanks) ++ digits) (b ∷ []) rest
    ∙ ap (λ (bs : List ℕ). ((fed ++ blanks) ++ digits) ++ bs) (sym behind-is)
    ∙ append_assoc (fed ++ blanks) digits behind
    ∙ ap (λ (bs : List ℕ). (fed ++ blanks) ++ bs) (sym from-is)
    ∙ append_assoc fed blanks from
    ∙ ap (λ (bs : List ℕ). fed ++ bs) (sym piece-is)
