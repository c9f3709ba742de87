-- The number that the value of an option is.
use Rattle.std.specs.Prelude.{ℕ, List, Option, Some, None, pos, negsuc, if◌then◌else◌}
use Rattle.tf_words.specs.Digits.{is_numeral}
use Rattle.tf_words.specs.Ranged.{number_in}
use Rattle.tf_words.specs.declared.ranged.Ranged.{Ranged}
use Rattle.tf_words.specs.declared.ranged.Ranged.TheVariants.{NotANumber, Below, Above, Within}

-- a number of the range, if it is one
abbrev pub natural_within : Ranged → Option ℕ
natural_within NotANumber = None
natural_within Below = None
natural_within Above = None
natural_within (Within (pos n)) = Some n
natural_within (Within (negsuc n)) = None

-- the number from `least` to `most` that a word of digits alone writes
abbrev pub numeral_in : ℕ → ℕ → List ℕ → Option ℕ
numeral_in least most word =
    if is_numeral word then natural_within (number_in (pos least) (pos most) word) else None
