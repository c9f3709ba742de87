use Rattle.std.proofs.Common.{◌≡◌, length}
use Rattle.tf_words.specs.Lines.{lines_of}
use Rattle.tf_orders.specs.Pieces.{past}
use Rattle.tf_orders.proofs.pieces.past.Given as goal

abbrev pub invariant-loop-line : goal.invariant-loop-line
invariant-loop-line l = past l.part (lines_of l.rest) ≡ past l.part (lines_of l.fn.lines)

abbrev pub decreases-loop-line : goal.decreases-loop-line
decreases-loop-line l = length (lines_of l.rest)
