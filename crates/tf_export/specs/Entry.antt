-- A line for one instance of a series, from the text that a command prints for it.
use Rattle.std.specs.Prelude.{ℕ, ◌||◌, List, [], ◌∷◌, ◌++◌, codes, if◌then◌else◌}
use Rattle.std.specs.List.{flat_map}
use Rattle.std.specs.Str.{bytes_eq}
use Rattle.std.specs.Fmt.{decimal}
use Rattle.tf_words.specs.Words.{words, lines}

-- the words that a line tells: those of a misfit, and the number of a value or of a gap
abbrev pub told_in : List (List ℕ) → List (List ℕ)
told_in [] = []
told_in (key ∷ row) =
    if bytes_eq key (codes "misfit") then key ∷ row
    else (if bytes_eq key (codes "value") || bytes_eq key (codes "gap") then row else [])

-- each behind a blank
abbrev pub told_of : List ℕ → List ℕ
told_of line = flat_map (λ word. 32 ∷ word) (told_in (words line))

-- the number of the instance, and what the lines of the text tell
abbrev pub entry : ℕ → List ℕ → List ℕ
entry number text = decimal number ++ (flat_map told_of (lines text) ++ 10 ∷ [])
