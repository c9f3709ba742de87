use Rattle.std.proofs.Common.{◌≡◌, length}
use Rattle.tf_words.specs.Lines.{lines_of}
use Rattle.tf_text.specs.AnswerReading.{pieces_at}
use Rattle.tf_text.specs.NextPiece.{with_pieces}
use Rattle.tf_text.proofs.answer.pieces.pieces_at.Given as goal

-- the pieces so far, and those of the lines that are left
abbrev pub invariant-loop-line : goal.invariant-loop-line
invariant-loop-line g l =
    with_pieces l.pieces.items (pieces_at (lines_of l.rest)) ≡ pieces_at (lines_of l.lines)

abbrev pub decreases-loop-line : goal.decreases-loop-line
decreases-loop-line g l = length (lines_of l.rest)
