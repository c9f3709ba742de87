use Rattle.std.proofs.Common.{◌≡◌, ◌+◌, ◌≤◌, length}
use Rattle.std.specs.List.{count_by}
use Rattle.tf_words.specs.Words.{lines}
use Rattle.tf_export.specs.Tally.{is_counted}
use Rattle.tf_export.proofs.tally.count_of.Given as goal

-- the lines so far are counted
abbrev pub invariant-loop-rest : goal.invariant-loop-rest
invariant-loop-rest l = record {
  counted : l.count + count_by (is_counted l.mark) (lines l.rest)
      ≡ count_by (is_counted l.mark) (lines l.text);
  room : l.count + length l.rest ≤ length l.text;
}

abbrev pub decreases-loop-rest : goal.decreases-loop-rest
decreases-loop-rest l = length l.rest
