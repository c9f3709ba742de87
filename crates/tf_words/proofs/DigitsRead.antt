-- Reading digits from the left.
use Rattle.std.proofs.Common.{◌≡◌, [], ◌∷◌, ℕ, ◌+◌, ◌-◌, ◌*◌, ◌^◌, ◌<◌, ◌≤◌, true, false, ltb, List, length, get_or, take, length-take, refl, ap, ◌∙◌, arith}
use Rattle.std.specs.List.{list_all}
use Rattle.std.specs.Char.{is_ascii_digit, digit_value}
use Rattle.std.specs.Str.Parse.{AllDigits, digits_value}
use Rattle.std.proofs.lemmas.Bool.{and_from, and_parts, le-leb, leb-true, le-ltb, lt-ltb}
use Rattle.std.proofs.lemmas.List.Recursion.{and_at}
use Rattle.std.proofs.lemmas.Str.Parse.{digit_from_value}
use Rattle.std.proofs.lemmas.Int.Digits.{digits_value_more, digits_value-lt}
use Rattle.std.proofs.Math.Nat.{pow-le-pow_right}

pub digit_is : (c : ℕ) → is_ascii_digit c ≡ true → (48 ≤ c) × (c ≤ 57) × (digit_value c ≡ c - 48)
digit_is c h =
    let both = and_parts _ _ h in
    let low : 48 ≤ c = leb-true 48 c both.0 in
    let high : c ≤ 57 = leb-true c 57 both.1 in
    let not_low : ltb c 48 ≡ false = le-ltb c 48 low in
    let below : ltb c 58 ≡ true = lt-ltb c 58 (omega arith) in
    (low, high, rw (not_low, below) refl)

-- the value of one more digit
pub one_more : (ds : List ℕ) (i : ℕ) → list_all is_ascii_digit ds ≡ true → i < length ds
    → (48 ≤ get_or ds i 0) × (get_or ds i 0 ≤ 57)
    × (digits_value 10 (take (i + 1) ds) ≡ digits_value 10 (take i ds) * 10
    + (get_or ds i 0 - 48))
one_more ds i all lt =
    let d = digit_is (get_or ds i 0)
    (and_at (list_all is_ascii_digit) is_ascii_digit refl (λ _ _. refl) ds i 0 lt all) in (
      d.0,
      d.1,
      digits_value_more 10 ds i lt
          ∙ ap (λ (n : ℕ). digits_value 10 (take i ds) * 10 + n) d.2,
    )

-- digits as the library calls them
all_digits : (ds : List ℕ) → list_all is_ascii_digit ds ≡ true → AllDigits 10 ds
all_digits [] h = tt
all_digits (d ∷ ds) h =
    let both = and_parts _ _ h in
    let digit = digit_is d both.0 in
    (omega (arith, digit.0, digit.1, digit.2), all_digits ds both.1)

-- digits as the library calls them, and back
pub digits_only : (ds : List ℕ) → AllDigits 10 ds → list_all is_ascii_digit ds ≡ true
digits_only [] h = refl
digits_only (d ∷ ds) h =
    let r = digit_from_value d h.0 in
    and_from _ _ (and_from _ _ (le-leb 48 d r.0) (le-leb d 57 r.1)) (digits_only ds h.1)

-- the value of no more than so many digits with which a text begins
pub few_digits : (text : List ℕ) (at k : ℕ) → list_all is_ascii_digit (take at text) ≡ true → at ≤ k
    → digits_value 10 (take at text) < 10 ^ k
few_digits text at k all few =
    let read = take at text in
    let below : digits_value 10 read < 10 ^ length read =
    digits_value-lt 10 read (all_digits read all) in
    let more : 10 ^ length read ≤ 10 ^ k =
    pow-le-pow_right {n = 10} (omega arith) (omega (arith, few, length-take at text)) in
    omega (arith, below, more)
