-- The words and the lines of a text.
use Rattle.std.specs.Prelude.{ℕ, ◌+◌, Bool, false, not, ◌||◌, List, [], ◌∷◌, ◌++◌, length, map, filter, nat_lt, ◌==◌, slice_index, if◌then◌else◌}
use Rattle.std.specs.List.{slice_split, onto_first}
use Rattle.std.specs.Str.{bytes_eq}

-- white space: a blank, a tab, a carriage return, a line feed
abbrev pub is_white : ℕ → Bool
is_white b = b == 32 || b == 9 || b == 13 || b == 10

-- a byte of a word, or a line feed
abbrev pub is_front : ℕ → Bool
is_front b = b == 10 || not (is_white b)

-- the words of a text: the parts between white space that are not empty
unfoldable pub words : List ℕ → List (List ℕ)
words text = filter (λ part. nat_lt 0 (length part)) (slice_split is_white text)

-- The lines of a text: each ends at a line feed or at the end. Nothing after the last line feed is
-- no line.
unfoldable pub lines : List ℕ → List (List ℕ)
lines [] = []
lines (b ∷ bs) = if b == 10 then [] ∷ lines bs else onto_first b (lines bs)

-- a word, with the number of its line
pub record Word : Type 0 where
  pub line : ℕ
  pub bytes : List ℕ

-- the words of lines of which the first has this number
unfoldable pub words_from : ℕ → List (List ℕ) → List Word
words_from number [] = []
words_from number (line ∷ lines) =
    map (λ word. record { line = number; bytes = word }) (words line)
    ++ words_from (number + 1) lines

-- all words of a text, each with the number of its line
unfoldable pub placed_words : List ℕ → List Word
placed_words text = words_from 1 (lines text)

-- a line by its words
pub record Line : Type 0 where
  pub number : ℕ
  pub words : List (List ℕ)

-- lines without words, and those whose first word begins with '#', are skipped
abbrev pub is_kept : List (List ℕ) → Bool
is_kept [] = false
is_kept (word ∷ words) = not (slice_index word 0 == 35)

-- the first word is this key
abbrev pub first_is : List ℕ → List (List ℕ) → Bool
first_is key [] = false
first_is key (word ∷ words) = bytes_eq word key

-- a line by its bytes
pub record KeptLine : Type 0 where
  pub number : ℕ
  pub bytes : List ℕ

-- the lines that are kept, of lines of which the first has this number
unfoldable pub kept_lines : ℕ → List (List ℕ) → List KeptLine
kept_lines number [] = []
kept_lines number (line ∷ lines) =
    if is_kept (words line) then record { number = number; bytes = line }
    ∷ kept_lines (number + 1) lines
    else kept_lines (number + 1) lines

abbrev pub by_words : KeptLine → Line
by_words line = record { number = line.number; words = words line.bytes }

-- the same by their words
unfoldable pub kept_from : ℕ → List (List ℕ) → List Line
kept_from number lines = map by_words (kept_lines number lines)
