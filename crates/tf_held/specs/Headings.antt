-- The names of the instances of a flow shop file.
use Rattle.std.specs.Prelude.{ℕ, ◌-◌, List, [], ◌∷◌, Option, None, Some, codes, slice_index_or, if◌then◌else◌}
use Rattle.std.specs.Str.{bytes_eq}
use Rattle.tf_words.specs.Words.{lines, words}

-- the name behind the word `instance`, where a line has these two words alone
abbrev pub heading_name : List (List ℕ) → Option (List ℕ)
heading_name (word ∷ name ∷ []) = if bytes_eq word (codes "instance") then Some name else None
heading_name _ = None

-- those of all lines
abbrev pub and_name : Option (List ℕ) → List (List ℕ) → List (List ℕ)
and_name None names = names
and_name (Some name) names = name ∷ names

abbrev pub names_of : List (List ℕ) → List (List ℕ)
names_of [] = []
names_of (line ∷ lines) = and_name (heading_name (words line)) (names_of lines)

-- the name of the instance of this number, and nothing where there are fewer
abbrev pub name_at : List ℕ → ℕ → List ℕ
name_at text number = slice_index_or (names_of (lines text)) (number - 1) []
