use Rattle.std.proofs.Common.{◌≡◌, ℕ, ◌+◌, ◌≤◌, List, ◌++◌, length, Result}
use Rattle.tf_model.specs.Limit.{most_bytes}
use Rattle.tf_text.specs.AnswerText.{SheetData}
use Rattle.tf_text.specs.AnswerReader.{Awaits}
use Rattle.tf_text.specs.declared.answer.fault.AnswerFault.{AnswerFault}
use Rattle.tf_text.proofs.answer.reading.AnswerReader.read.Given as goal

-- what is left of the piece
abbrev pub invariant-loop-text : goal.invariant-loop-text
invariant-loop-text g l = record {
  room : l.self.number + length l.rest + l.self.left ≤ most_bytes + 2;
  left : l.self.left ≡ l.fn.self.left;
  awaits : (more : List ℕ) (total : Result SheetData AnswerFault)
      → Awaits l.fn.self (l.fn.piece ++ more) total → Awaits l.self (l.rest ++ more) total;
}

abbrev pub decreases-loop-text : goal.decreases-loop-text
decreases-loop-text g l = length l.rest
