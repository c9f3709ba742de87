-- What stands in a line.
use Rattle.std.specs.Prelude.{ℕ, ◌-◌, Bool, not, List, [], length, take, drop, position, slice_index, ◌==◌, if◌then◌else◌}
use Rattle.std.specs.Option.{option_map_or}
use Rattle.tf_words.specs.Words.{is_white}

-- the text from its first byte on that passes the test
abbrev pub from_first : (ℕ → Bool) → List ℕ → List ℕ
from_first test text = option_map_or (λ k. drop k text) (position test text) []

-- what stands after the first word of a line
abbrev pub after_word : List ℕ → List ℕ
after_word line = from_first is_white (from_first (λ b. not (is_white b)) line)

-- the text without one carriage return at its very end
abbrev pub without_return : List ℕ → List ℕ
without_return text =
    if slice_index text (length text - 1) == 13 then take (length text - 1) text else text
