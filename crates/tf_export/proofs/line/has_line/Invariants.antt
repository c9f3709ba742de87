use Rattle.std.proofs.Common.{◌≡◌, length}
use Rattle.tf_words.specs.Words.{lines}
use Rattle.tf_export.specs.Lines.{has_line}
use Rattle.tf_export.proofs.line.has_line.Given as goal

-- a line behind those so far is begun by the word just where a line of the text is
abbrev pub invariant-loop-rest : goal.invariant-loop-rest
invariant-loop-rest l = has_line l.word (lines l.rest) ≡ has_line l.word (lines l.text)

abbrev pub decreases-loop-rest : goal.decreases-loop-rest
decreases-loop-rest l = length l.rest
