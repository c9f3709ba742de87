-- The parts of a word.
use Rattle.std.specs.Prelude.{ℕ, ◌+◌, Bool, List, [], ◌∷◌, take, drop, Option, ◌==◌, position}
use Rattle.std.specs.Option.{option_map}
use Rattle.std.specs.List.{slice_split}

-- a word in two, at the first of a byte
abbrev pub divided : ℕ → List ℕ → Option (List ℕ × List ℕ)
divided byte word =
    option_map (λ k. (take k word, drop (k + 1) word)) (position (λ b. b == byte) word)

abbrev pub is_comma : ℕ → Bool
is_comma b = b == 44

-- what stands between the ',' of a word: one part more than there are ','
abbrev pub parts : List ℕ → List (List ℕ)
parts word = slice_split is_comma word

-- the parts of which each stands behind a ',', the first byte being one
abbrev pub later_parts : List ℕ → List (List ℕ)
later_parts [] = []
later_parts (comma ∷ more) = parts more
