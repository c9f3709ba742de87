-- What a word is as a number of a range.
use Rattle.std.specs.Prelude.{ℕ, ℤ, Bool, List, Option, Some, None, int_le, is_some, if◌then◌else◌}
use Rattle.tf_words.specs.Digits.{numeral}
use Rattle.tf_words.specs.declared.ranged.Ranged.{Ranged}
use Rattle.tf_words.specs.declared.ranged.Ranged.TheVariants.{NotANumber, Below, Above, Within}

-- the word is a number
abbrev pub is_number : List ℕ → Bool
is_number word = is_some (numeral word)

-- where a number lies, seen from a range
abbrev pub judged : ℤ → ℤ → ℤ → Ranged
judged least most z = if int_le least z then (if int_le z most then Within z else Above) else Below

-- the same, if there is a number
abbrev pub placed : ℤ → ℤ → Option ℤ → Ranged
placed least most None = NotANumber
placed least most (Some z) = judged least most z

-- a word as a number from `least` to `most`
abbrev pub number_in : ℤ → ℤ → List ℕ → Ranged
number_in least most word = placed least most (numeral word)
