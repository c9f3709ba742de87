-- What a word of digits is as a number.
use Rattle.std.proofs.Common.{◌≡◌, ℕ, ◌≤◌, ◌<◌, to_z, w64, pos, neg_ℤ, true, false, eqb, List, [], ◌∷◌, ◌++◌, get_or, Some, refl, ap, ◌∙◌, arith}
use Rattle.std.specs.List.{list_all}
use Rattle.std.specs.Char.{is_ascii_digit}
use Rattle.std.proofs.lemmas.Bool.{ne_eqb, and_parts, le-leb}
use Rattle.std.proofs.lemmas.Int.{ints}
use Rattle.tf_words.specs.Digits.{is_numeral, numeral}
use Rattle.tf_words.specs.Limit.{limit}
use Rattle.tf_words.specs.Number.{number, within_limit, plain}
use Rattle.tf_words.specs.FirstLine.{IsNumeralOf}
use Rattle.tf_words.specs.Ranged.{placed}
use Rattle.tf_words.specs.declared.number.Number.TheVariants.{Value}
use Rattle.tf_words.proofs.DigitsRead.{digit_is}
use Rattle.tf_words.proofs.Limited.{in_limit}

-- a word of digits does not begin with a hyphen
pub no_minus : (word : List ℕ) → list_all is_ascii_digit word ≡ true → eqb (get_or word 0 0) 45 ≡ false
no_minus [] h = refl
no_minus (d ∷ ds) h =
    let low = (digit_is d (and_parts _ _ h).0).0 in ne_eqb d 45 (λ e. omega (arith, low, e))

-- a word of digits as a signed number
pub numeral_is : (word : List ℕ) (v : ℕ) → IsNumeralOf word v → numeral word ≡ Some (pos v)
unfolding numeral
numeral_is word v is =
    let plus = no_minus word (and_parts _ _ is.numeral).1 in
    rw plus (rw is.numeral (ap (λ n. Some (pos n)) is.value))

-- up to the limit it is that number
pub number_is : (word : List ℕ) (v : ℕ) → IsNumeralOf word v → v ≤ limit
    → number word ≡ Value (pos v)
unfolding number
number_is word v is few =
    ap (λ o. within_limit (placed (neg_ℤ (pos limit)) (pos limit) o)) (numeral_is word v is)
    ∙ in_limit v few

-- without a leading zero it is plain
pub plain_is : (word : List ℕ) (v most : ℕ) → IsNumeralOf word v → eqb (get_or word 0 0) 48 ≡ false
    → v ≤ most → plain most word ≡ Some v
unfolding plain
plain_is word v most is first few =
    rw (is.numeral, first) (rw (is.value) (rw (le-leb v most few) refl))

-- a number of at most 18 digits
abbrev pub Few : ℕ → Type 0
Few n = n < 1000000000000000000

-- such a number keeps its value as a signed one of 64 bits
pub as_pos : (n : ℕ) → Few n → pos n ≡ to_z w64 n
as_pos n few = omega (arith, ints)

-- the byte behind a blank is the first one of the word there
pub second : (text word rest : List ℕ) → text ≡ 32 ∷ (word ++ rest) → is_numeral word ≡ true
    → get_or text 1 0 ≡ get_or word 0 0
second text [] rest is some = cc
second text (d ∷ ds) rest is some = ap (λ (bs : List ℕ). get_or bs 1 0) is
