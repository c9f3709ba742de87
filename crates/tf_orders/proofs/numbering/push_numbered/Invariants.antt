use Rattle.std.proofs.Common.{◌≡◌, ◌++◌, length}
use Rattle.tf_words.specs.Lines.{lines_of}
use Rattle.tf_words.specs.Words.{kept_lines, lines}
use Rattle.tf_orders.specs.OrderText.{numbered}
use Rattle.tf_orders.proofs.numbering.push_numbered.Given as goal

-- the rows so far are written
abbrev pub invariant-loop-line : goal.invariant-loop-line
invariant-loop-line g l =
    l.out.items ++ numbered (lines_of l.lines) (lines l.left)
    ≡ l.fn.out.items ++ numbered (kept_lines 1 (lines l.fn.text)) (lines l.fn.rows)

abbrev pub decreases-loop-line : goal.decreases-loop-line
decreases-loop-line g l = length (lines_of l.lines)
