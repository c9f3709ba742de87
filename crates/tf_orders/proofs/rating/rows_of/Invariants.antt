use Rattle.std.proofs.Common.{length}
use Rattle.tf_words.specs.Words.{lines, kept_lines}
use Rattle.tf_words.specs.Lines.{lines_of}
use Rattle.tf_orders.proofs.Rows.{AreRowsSoFar}
use Rattle.tf_orders.proofs.rating.rows_of.Given as goal

abbrev pub invariant-loop-line : goal.invariant-loop-line
invariant-loop-line g l =
    AreRowsSoFar l.goes_on l.measure (kept_lines 1 (lines l.text)) (lines_of l.lines) l.out.items

abbrev pub decreases-loop-line : goal.decreases-loop-line
decreases-loop-line g l = length (lines_of l.lines)
