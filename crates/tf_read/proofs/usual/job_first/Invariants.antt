use Rattle.std.proofs.Common.{◌≡◌, ◌≤◌, ℕ, length}
use Rattle.tf_words.specs.FirstLine.{line_words, lines_behind}
use Rattle.tf_read.specs.JobLine.{fields_at, no_fields}
use Rattle.tf_read.proofs.usual.job_first.Given as goal

-- the fields so far, and those of the words that are left
abbrev pub invariant-loop-behind : goal.invariant-loop-behind
invariant-loop-behind g l = record {
  fields : (line : ℕ) → fields_at line l.fields (line_words l.rest)
      ≡ fields_at line no_fields (line_words l.text);
  behind : lines_behind l.rest ≡ lines_behind l.text;
  shorter : length l.rest ≤ length l.text;
}

abbrev pub decreases-loop-behind : goal.decreases-loop-behind
decreases-loop-behind g l = length l.rest
