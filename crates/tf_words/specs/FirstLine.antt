-- A text by its first line, which is read from the front.
use Rattle.std.specs.Prelude.{◌≡◌, ℕ, ◌<◌, true, List, [], ◌∷◌, length, drop}
use Rattle.std.specs.Str.Parse.{digits_value}
use Rattle.tf_words.specs.Digits.{is_numeral}
use Rattle.tf_words.specs.Words.{is_white, words, lines}

-- the words of the first of some lines
abbrev pub first_words : List (List ℕ) → List (List ℕ)
first_words [] = []
first_words (line ∷ more) = words line

-- the words of a text's first line
unfoldable pub line_words : List ℕ → List (List ℕ)
line_words text = first_words (lines text)

-- the lines behind it
unfoldable pub lines_behind : List ℕ → List (List ℕ)
lines_behind text = drop 1 (lines text)

-- the first line of a text begins with a word, and the rest of the text begins with the rest of the
-- line
pub record IsWordBefore (text word rest : List ℕ) : Type 0 where
  pub words : line_words text ≡ word ∷ line_words rest
  pub behind : lines_behind text ≡ lines_behind rest
  pub shorter : length rest < length text

-- the first line of a text has no word, and the rest of the text stands behind its line feed
pub record IsLineEnd (text rest : List ℕ) : Type 0 where
  pub words : line_words text ≡ []
  pub behind : lines_behind text ≡ lines rest
  pub shorter : length rest < length text

-- a text begins with white space
pub record BeginsWhite (text : List ℕ) : Type 0 where
  pub byte : ℕ
  pub more : List ℕ
  pub is : text ≡ byte ∷ more
  pub white : is_white byte ≡ true

-- a word of digits alone, and their number
pub record IsNumeralOf (word : List ℕ) (number : ℕ) : Type 0 where
  pub numeral : is_numeral word ≡ true
  pub value : digits_value 10 word ≡ number
