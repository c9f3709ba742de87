use Rattle.std.proofs.Common.{◌≡◌, ◌++◌, None, drop}
use Rattle.tf_picture.specs.Bars.{bars_of}
use Rattle.tf_picture.proofs.bars.bars_of.Given as goal

-- the bars so far, and those of the pieces left, are all bars
abbrev pub invariant-loop-piece : goal.invariant-loop-piece
invariant-loop-piece g l =
    l.bars.items ++ bars_of l.before (drop l.piece-index l.pieces) ≡ bars_of None l.pieces
