-- Answers, orders and bounds that stand one after the other in a text.
use Rattle.std.specs.Prelude.{◌≡◌, Bool, false, List, [], ◌∷◌, ◌++◌, if◌then◌else◌, ℕ, codes}
use Rattle.std.specs.Str.{bytes_eq}
use Rattle.tf_words.specs.Words.{is_kept, lines, words}
use Rattle.tf_asked.specs.declared.series.Told.{Told}
use Rattle.tf_held.specs.Texts.{BesideData}
use Rattle.tf_asked.specs.declared.series.Told.TheVariants.{Orders}

-- ---- answers and bounds: each is over with the first line that is the word `end` alone, and the
-- last one with the text

-- the words of a line are the word `end` alone
abbrev pub are_end : List (List ℕ) → Bool
are_end [] = false
are_end (word ∷ []) = bytes_eq word (codes "end")
are_end (word ∷ next ∷ more) = false

-- the lines after the first that is the word `end` alone
abbrev pub after_end : List (List ℕ) → List (List ℕ)
after_end [] = []
after_end (line ∷ lines) = if are_end (words line) then lines else after_end lines

-- the first answer or bound of a text, and the text that follows it
pub record IsNext (text answer rest : List ℕ) : Type 0 where
  pub whole : text ≡ answer ++ rest
  pub after : lines rest ≡ after_end (lines text)

-- ---- orders: each is a line that has a word and is no comment

-- the first such line, and an empty one where there is none
abbrev pub first_kept : List (List ℕ) → List ℕ
first_kept [] = []
first_kept (line ∷ lines) = if is_kept (words line) then line else first_kept lines

-- the lines after it
abbrev pub after_kept : List (List ℕ) → List (List ℕ)
after_kept [] = []
after_kept (line ∷ lines) = if is_kept (words line) then lines else after_kept lines

-- the first order of a text, and the text that follows it
pub record IsNextOrder (text order rest : List ℕ) : Type 0 where
  pub first : order ≡ first_kept (lines text)
  pub after : lines rest ≡ after_kept (lines text)

-- ---- what is evaluated of an instance

-- what a text of orders, or of answers, has for the next instance, and what is left of it
abbrev pub IsNextFor : Told → List ℕ → List ℕ → List ℕ → Type 0
IsNextFor (Orders name steps) text order rest = IsNextOrder text order rest
IsNextFor _ text answer rest = IsNext text answer rest

-- the texts for the next instance, with its bound, and what is left of them
pub record AreNext (told : Told) (texts here rest : BesideData) : Type 0 where
  pub answers : IsNextFor told texts.answers here.answers rest.answers
  pub bounds : IsNext texts.bounds here.bounds rest.bounds
