use Rattle.std.proofs.Common.{◌+◌, ◌≤◌, length}
use Rattle.tf_text.specs.NextPiece.{Moves}
use Rattle.tf_text.proofs.answer.pieces.push_usual.Given as goal

-- the pieces so far, and what is left of the text
abbrev pub invariant-loop-piece : goal.invariant-loop-piece
invariant-loop-piece g l = record {
  later : l.number + length l.rest ≤ l.fn.number + length l.fn.text;
  fewer : length l.rest ≤ length l.fn.text;
  moves : Moves l.fn.pieces.items l.fn.number l.fn.text l.pieces.items l.number l.rest;
}

abbrev pub decreases-loop-piece : goal.decreases-loop-piece
decreases-loop-piece g l = length l.rest
