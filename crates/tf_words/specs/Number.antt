-- What a word is as a number.
use Rattle.std.specs.Prelude.{ℕ, ◌&&◌, List, ◌==◌, slice_index, pos, neg_ℤ, not, nat_le, Option, Some, None, if◌then◌else◌}
use Rattle.std.specs.Str.Parse.{digits_value}
pub use Rattle.tf_words.specs.Limit.{limit}
pub use Rattle.tf_words.specs.Digits.{is_numeral, signed}
use Rattle.tf_words.specs.Ranged.{number_in}
use Rattle.tf_words.specs.declared.ranged.Ranged.{Ranged}
use Rattle.tf_words.specs.declared.ranged.Ranged.TheVariants as ranged
use Rattle.tf_words.specs.declared.number.Number.{Number}
use Rattle.tf_words.specs.declared.number.Number.TheVariants.{NotANumber, TooLarge, Value}

-- a number within the limit, on either side of 0
abbrev pub within_limit : Ranged → Number
within_limit ranged.NotANumber = NotANumber
within_limit ranged.Below = TooLarge
within_limit ranged.Above = TooLarge
within_limit (ranged.Within z) = Value z

unfoldable pub number : List ℕ → Number
number word = within_limit (number_in (neg_ℤ (pos limit)) (pos limit) word)

-- the number that a word writes in digits without a leading zero, up to a greatest one
unfoldable pub plain : ℕ → List ℕ → Option ℕ
plain most word =
    if is_numeral word && not (slice_index word 0 == 48)
    && nat_le (digits_value 10 word) most then Some (digits_value 10 word) else None
