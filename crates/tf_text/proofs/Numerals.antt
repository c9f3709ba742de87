-- Numbers that are written are read as they were.
use Rattle.std.proofs.Common.{◌≡◌, ℕ, suc, ℤ, pos, negsuc, ◌^◌, ◌<◌, ◌≤◌, ◌≤ℤ◌, true, false, not, eqb, List, [], ◌∷◌, get_or, Some, Ok, w64, refl, ap, ◌∙◌, arith}
use Rattle.std.specs.List.{list_all}
use Rattle.std.specs.Fmt.{decimal, signed_decimal}
use Rattle.std.specs.Str.Parse.{AllDigits, digits_value}
use Rattle.std.proofs.lemmas.Bool.{lt-ltb, ne_eqb, and_from}
use Rattle.std.proofs.lemmas.Int.{ints}
use Rattle.std.proofs.lemmas.Str.Parse.{digit_from_value}
use Rattle.std.proofs.lemmas.Fmt.{decimal_is_IsNumeral}
use mir.Val.{SFits}
use Rattle.tf_words.specs.Digits.{is_numeral, numeral}
use Rattle.tf_model.specs.Whole.{IsWithin}
use Rattle.tf_words.specs.Words.{is_white}
use Rattle.tf_words.specs.Ranged.{judged, placed}
use Rattle.tf_words.specs.declared.ranged.Ranged.TheVariants.{Within}
use Rattle.tf_words.proofs.DigitsRead.{digits_only}
use Rattle.tf_text.specs.AnswerReading.{counted, count_in, signed_within, time_in, value_in}
use Rattle.tf_text.specs.Readable.{IsCount}
use Rattle.tf_text.proofs.WordLines.{IsWord}

-- ---- digits

digit_dark : (d : ℕ) → 48 ≤ d → not (is_white d) ≡ true
digit_dark d low =
    let a : eqb d 32 ≡ false = ne_eqb d 32 (λ e. omega (arith, low, e)) in
    let b : eqb d 9 ≡ false = ne_eqb d 9 (λ e. omega (arith, low, e)) in
    let c : eqb d 13 ≡ false = ne_eqb d 13 (λ e. omega (arith, low, e)) in
    let f : eqb d 10 ≡ false = ne_eqb d 10 (λ e. omega (arith, low, e)) in
    rw (a, b, c, f) refl

pub digits_dark : (ds : List ℕ) → AllDigits 10 ds → list_all (λ b. not (is_white b)) ds ≡ true
digits_dark [] h = refl
digits_dark (d ∷ ds) h = let r = digit_from_value d h.0 in
    and_from _ _ (digit_dark d r.0) (digits_dark ds h.1)

no_minus : (ds : List ℕ) → AllDigits 10 ds → eqb (get_or ds 0 0) 45 ≡ false
no_minus [] h = refl
no_minus (d ∷ ds) h = let r = digit_from_value d h.0 in ne_eqb d 45 (λ e. omega (arith, r.0, e))

pub word-decimal : (n : ℕ) → n < 2 ^ 64 → IsWord (decimal n)
word-decimal n small = let d = decimal_is_IsNumeral n small in
    record { some = d.0.0; dark = digits_dark (decimal n) d.0.1 }

pub word-signed : (z : ℤ) → SFits w64 z → IsWord (signed_decimal z)
word-signed (pos n) fits = word-decimal n (omega (arith, ints))
word-signed (negsuc n) fits =
    let digits = word-decimal (suc n) (omega (arith, ints)) in
    record { some = omega (arith, digits.some); dark = digits.dark }

-- ---- numerals

pub decimal_numeral : (n : ℕ) → n < 2 ^ 64 → is_numeral (decimal n) ≡ true
decimal_numeral n small =
    let d = decimal_is_IsNumeral n small in
    and_from _ _ (lt-ltb _ _ d.0.0) (digits_only (decimal n) d.0.1)

pub numeral-decimal : (n : ℕ) → n < 2 ^ 64 → numeral (decimal n) ≡ Some (pos n)
unfolding numeral
numeral-decimal n small =
    let d = decimal_is_IsNumeral n small in
    let first : eqb (get_or (decimal n) 0 0) 45 ≡ false = no_minus (decimal n) d.0.1 in
    let whole : is_numeral (decimal n) ≡ true = decimal_numeral n small in
    let value : digits_value 10 (decimal n) ≡ n = d.1 in
    rw (first, whole, value) refl

pub numeral-signed : (z : ℤ) → SFits w64 z → numeral (signed_decimal z) ≡ Some z
unfolding numeral
numeral-signed (pos n) fits = numeral-decimal n (omega (arith, ints))
numeral-signed (negsuc n) fits =
    let d = decimal_is_IsNumeral (suc n) (omega (arith, ints)) in
    let whole : is_numeral (decimal (suc n)) ≡ true =
    decimal_numeral (suc n) (omega (arith, ints)) in
    let value : digits_value 10 (decimal (suc n)) ≡ suc n = d.1 in
    rw (whole, value) refl

pub judged_within : (least most z : ℤ) → least ≤ℤ z → z ≤ℤ most → judged least most z ≡ Within z
judged_within least most z low high = grind (arith, ints)

pub count-decimal : (line most n : ℕ) → most < 2 ^ 63 → IsCount most n
    → count_in line most (decimal n) ≡ Ok n
count-decimal line most n small is =
    ap (λ o. counted line (placed (pos 1) (pos most) o))
    (numeral-decimal n (omega (arith, is.0, is.1)))
    ∙ ap (counted line)
    (judged_within (pos 1) (pos most) (pos n) (omega (arith, ints, is.0))
    (omega (arith, ints, is.1)))

within_fits : (z : ℤ) → IsWithin z → SFits w64 z
within_fits z is = omega (arith, ints)

pub time-signed : (line : ℕ) (z : ℤ) → IsWithin z → time_in line (signed_decimal z) ≡ Ok z
time-signed line z is =
    ap (λ o. signed_within line (placed (negsuc 3999999999999999999) (pos 4000000000000000000) o))
    (numeral-signed z (within_fits z is))
    ∙ ap (signed_within line)
    (judged_within (negsuc 3999999999999999999) (pos 4000000000000000000) z
    (omega (arith, ints, is.0)) is.1)

pub word-time : (z : ℤ) → IsWithin z → IsWord (signed_decimal z)
word-time z is = word-signed z (within_fits z is)

pub value-signed : (line : ℕ) (z : ℤ) → SFits w64 z → value_in line (signed_decimal z) ≡ Ok z
value-signed line z fits =
    ap (λ o. signed_within line (placed (negsuc 9223372036854775807) (pos 9223372036854775807) o))
    (numeral-signed z fits)
    ∙ ap (signed_within line)
    (judged_within (negsuc 9223372036854775807) (pos 9223372036854775807) z
    (omega (arith, ints)) (omega (arith, ints)))
