-- The pieces of a schedule, as a text says them: its lines `piece`. The other lines of an answer may
-- stand before and after them.
use Rattle.std.specs.Prelude.{ℕ, Bool, ◌||◌, List, [], ◌∷◌, codes, Result, Ok, if◌then◌else◌}
use Rattle.tf_words.specs.Words.{KeptLine, words, first_is}
use Rattle.tf_model.specs.Outcome.{◌>>=◌}
use Rattle.tf_schedule.specs.declared.piece.Piece.{Piece}
use Rattle.tf_text.specs.declared.answer.fault.AnswerFault.{AnswerFault}
use Rattle.tf_text.specs.AnswerReading.{pieces_at, finished}
use Rattle.tf_orders.specs.declared.pieces.Part.{Part}
use Rattle.tf_orders.specs.declared.pieces.Part.TheVariants.{Front, Back}

-- the words of a line that an answer has before its pieces, or after them
abbrev pub is_of_part : Part → List (List ℕ) → Bool
is_of_part Front ws =
    first_is (codes "answer") ws || (first_is (codes "problem") ws || (first_is (codes "jobs") ws
    || (first_is (codes "machines") ws || first_is (codes "value") ws)))
is_of_part Back ws = first_is (codes "cert") ws || first_is (codes "end") ws

-- the lines after those of a part
unfoldable pub past : Part → List KeptLine → List KeptLine
past part [] = []
past part (line ∷ more) = if is_of_part part (words line.bytes) then past part more else line ∷ more

-- the pieces of all lines
abbrev pub pieces_of : List KeptLine → Result (List Piece) AnswerFault
pieces_of all = do
  (pieces, rest) ← pieces_at (past Front all)
  _ ← finished (past Back rest)
  Ok pieces
