-- A line of a text, byte by byte.
use Rattle.std.specs.Prelude.{◌≡◌, ℕ, true, not, List, ◌++◌, ◌==◌}
use Rattle.std.specs.List.{list_all}
use Rattle.tf_words.specs.Words.{is_white, words}

-- none of them is a line feed
abbrev pub AreOfLine : List ℕ → Type 0
AreOfLine bytes = list_all (λ b. not (b == 10)) bytes ≡ true

-- of a line that begins with these bytes the words `seen` are over, and `word` may go on
pub record IsInLine (bytes : List ℕ) (seen : List (List ℕ)) (word : List ℕ) : Type 0 where
  pub one_word : list_all (λ b. not (is_white b)) word ≡ true
  pub goes_on : (more : List ℕ) → words (bytes ++ more) ≡ seen ++ words (word ++ more)
