use Rattle.std.proofs.Common.{◌≡◌, ◌≤◌, ◌-◌, length}
use Rattle.tf_notation.specs.Reading.{listed}
use Rattle.tf_notation.specs.Spelling.{no_conditions}
use Rattle.tf_notation.specs.Tokens.{tokens_after}
use Rattle.tf_notation.proofs.reading.read_listed.Given as goal

abbrev pub invariant-loop-more : goal.invariant-loop-more
invariant-loop-more l = record {
  from : l.fn.offset ≤ l.at;
  inside : l.at ≤ length l.text;
  same : listed (length l.text) l.named (tokens_after l.text l.at)
      ≡ listed (length l.text) no_conditions (tokens_after l.text l.fn.offset);
}

abbrev pub decreases-loop-more : goal.decreases-loop-more
decreases-loop-more l = length l.text - l.at
