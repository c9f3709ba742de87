use Rattle.std.proofs.Common.{◌≡◌, List, ◌++◌, length, false}
use Rattle.std.specs.Io.KnownBytes.{Appends}
use Rattle.tf_schedule.specs.declared.piece.Piece.{Piece}
use Rattle.tf_text.specs.Counted.{inner_of, has_failed}
use Rattle.tf_text.specs.AnswerText.{pieces_text}
use Rattle.tf_text.proofs.answer.block.write_pieces.Given as goal

-- the pieces before the rest are written, and nothing failed
abbrev pub invariant-loop-rest : goal.invariant-loop-rest
invariant-loop-rest g l = record {
  written : (done : List Piece) × (done ++ l.rest ≡ l.pieces)
      × Appends (g.W.Write.contents (inner_of l.fn.writer))
      (g.W.Write.contents (inner_of l.writer)) (pieces_text done);
  unfailed : has_failed l.writer ≡ false;
}

abbrev pub decreases-loop-rest : goal.decreases-loop-rest
decreases-loop-rest g l = length l.rest
