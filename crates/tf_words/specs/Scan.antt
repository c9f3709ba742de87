-- Reading the words of a text byte by byte.
use Rattle.std.specs.Prelude.{◌≡◌, ℕ, ◌+◌, ◌≤◌, true, not, List, ◌++◌, length, ◌==◌, ◌≤ℤ◌, pos, neg_ℤ, if◌then◌else◌}
use Rattle.std.specs.List.{list_all}
use Rattle.tf_words.specs.Words.{Word, is_white, lines, words_from}
use Rattle.tf_words.specs.Number.{number, limit, signed, within_limit}
use Rattle.tf_words.specs.Ranged.{judged}
use Rattle.tf_words.specs.SoFar.{so_far}
use Rattle.tf_words.specs.declared.number.Number.{Number}
use Rattle.tf_words.specs.declared.number.Number.TheVariants.{NotANumber, TooLarge, Value}
use Rattle.tf_words.specs.declared.so_far.SoFar.{SoFar}
use Rattle.tf_words.specs.declared.so_far.SoFar.TheVariants.{Empty, Minus, Digits, Bad}

-- the number that a word is by what all its bytes have shown
abbrev pub number_shown : SoFar → Number
number_shown Empty = NotANumber
number_shown Minus = NotANumber
number_shown (Digits negative size) =
    within_limit (judged (neg_ℤ (pos limit)) (pos limit) (signed negative size))
number_shown Bad = NotANumber

-- the line on which the byte after this one stands
abbrev pub line_after : ℕ → ℕ → ℕ
line_after line byte = if byte == 10 then line + 1 else line

-- of a text that begins with `fed`, on a line of the number `first`, the words `seen` are over, and
-- what has shown
-- belongs to a word that may go on, on this line
pub record IsAt (first : ℕ) (fed : List ℕ) (seen : List Word) (line : ℕ) (shown : SoFar) : Type 0
  where
    pub bytes : List ℕ
    pub shown_by : shown ≡ so_far bytes
    pub one_word : list_all (λ b. not (is_white b)) bytes ≡ true
    pub early : line ≤ first + length fed
    pub goes_on : (more : List ℕ)
        → words_from first (lines (fed ++ more)) ≡ seen ++ words_from line (lines (bytes ++ more))

-- blanks, and nothing else
abbrev pub AreBlanks : List ℕ → Type 0
AreBlanks bytes = list_all (λ b. b == 32) bytes ≡ true

-- a line's number and a number are those of a word
pub record IsOf (word : Word) (line : ℕ) (read : Number) : Type 0 where
  pub line_is : line ≡ word.line
  pub number_is : read ≡ number word.bytes

-- the number is no value beyond the limit
abbrev pub IsInRange : Number → Type 0
IsInRange NotANumber = Unit {0}
IsInRange TooLarge = Unit {0}
IsInRange (Value z) = (neg_ℤ (pos limit) ≤ℤ z) × (z ≤ℤ pos limit)
