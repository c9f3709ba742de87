use Rattle.std.proofs.Common.{◌≡◌, ◌+◌, ◌≤◌, length}
use Rattle.tf_words.specs.Words.{words}
use Rattle.tf_export.proofs.line.count_words.Given as goal

abbrev pub invariant-loop-more : goal.invariant-loop-more
invariant-loop-more l = record {
  counted : l.count + length (words l.rest) ≡ length (words l.text);
  room : l.count + length l.rest ≤ length l.text;
}

abbrev pub decreases-loop-more : goal.decreases-loop-more
decreases-loop-more l = length l.rest
