-- Lines of pieces in their usual form, read from the front of a text.
use Rattle.std.specs.Prelude.{◌≡◌, ℕ, ◌==◌, true, not, List, ◌∷◌, ◌++◌, drop, codes, Result, Ok}
use Rattle.std.specs.List.{list_all}
use Rattle.tf_model.specs.Outcome.{◌>>=◌}
use Rattle.tf_words.specs.Words.{words, lines, first_is, is_kept, KeptLine, kept_lines}
use Rattle.tf_schedule.specs.declared.piece.Piece.{Piece}
use Rattle.tf_text.specs.AnswerReading.{piece_in, pieces_at}
use Rattle.tf_text.specs.declared.answer.fault.AnswerFault.{AnswerFault}

-- a text begins with the line of this piece, which ends at a line feed, whatever its number
pub record IsUsual (text : List ℕ) (piece : Piece) (rest : List ℕ) : Type 0 where
  pub line : List ℕ
  pub is : text ≡ line ++ 10 ∷ rest
  pub own : list_all (λ b. not (b == 10)) line ≡ true
  pub kept : is_kept (words line) ≡ true
  pub key : first_is (codes "piece") (words line) ≡ true
  pub read : (number : ℕ) → piece_in number (drop 1 (words line)) ≡ Ok piece

abbrev pub Read : Type 0
Read = Result (List Piece × List KeptLine) AnswerFault

-- pieces that are read, and then those that reading gives
abbrev pub with_pieces : List Piece → Read → Read
with_pieces front read = read >>= λ x. Ok (front ++ x.0, x.1)

-- The lines of some pieces were read from the front of a text: whatever follows it, the pieces of
-- the whole are those so far, and those of what is left.
abbrev pub Moves : List Piece → ℕ → List ℕ → List Piece → ℕ → List ℕ → Type 0
Moves front number text new next rest = (more : List ℕ)
    → with_pieces front (pieces_at (kept_lines number (lines (text ++ more))))
    ≡ with_pieces new (pieces_at (kept_lines next (lines (rest ++ more))))
