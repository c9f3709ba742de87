use Rattle.std.proofs.Common.{◌≡◌, ◌++◌, None, IfSome, drop}
use Rattle.tf_schedule.specs.Schedule.{IsPiece}
use Rattle.tf_picture.specs.Picture.{links}
use Rattle.tf_picture.proofs.links.push_each.Given as goal

-- the text so far, and the lines of the pieces left, are the text with all lines
abbrev pub invariant-loop-piece : goal.invariant-loop-piece
invariant-loop-piece g l = record {
  rest : l.text.items ++ links l.frame l.before (drop l.piece-index l.pieces)
      ≡ l.initial.text.items ++ links l.frame None l.pieces;
  sound : IfSome l.before IsPiece;
}
