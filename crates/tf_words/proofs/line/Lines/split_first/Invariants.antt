use Rattle.std.proofs.Common.{◌≡◌, ◌+◌, ◌≤◌, length}
use Rattle.tf_words.specs.Words.{lines, kept_lines}
use Rattle.tf_words.specs.Lines.{lines_of}
use Rattle.tf_words.proofs.line.Lines.split_first.Given as goal

abbrev pub invariant-loop-rest : goal.invariant-loop-rest
invariant-loop-rest l = record {
  room : l.number + length l.rest ≤ l.self.number + length l.self.rest.now;
  same : lines_of l.self ≡ kept_lines l.number (lines l.rest);
}

abbrev pub decreases-loop-rest : goal.decreases-loop-rest
decreases-loop-rest l = length l.rest
