-- Where the words of a text are divided.
use Rattle.std.specs.Prelude.{◌≡◌, ℕ, ◌+◌, ◌≤◌, true, List, [], ◌∷◌, length, drop}
use Rattle.tf_words.specs.Words.{is_white, words}

-- empty, or begins with white space
abbrev pub IsBehindWord : List ℕ → Type 0
IsBehindWord [] = Unit {0}
IsBehindWord (b ∷ rest) = is_white b ≡ true

-- the first word of the text ends behind n bytes
pub record EndsWord (text : List ℕ) (n : ℕ) : Type 0 where
  pub within : n ≤ length text
  pub behind : IsBehindWord (drop n text)
  pub one : length (words text) ≡ 1 + length (words (drop n text))
