-- The lines of a text.
use Rattle.std.specs.Prelude.{ℕ, Bool, List, [], ◌∷◌}
use Rattle.std.specs.List.{list_any}
use Rattle.tf_words.specs.Words.{words, first_is}

-- the first line, and an empty one where there is none
abbrev pub first_of : List (List ℕ) → List ℕ
first_of [] = []
first_of (line ∷ more) = line

-- a word begins a line
abbrev pub has_line : List ℕ → List (List ℕ) → Bool
has_line word lines = list_any (λ line. first_is word (words line)) lines
