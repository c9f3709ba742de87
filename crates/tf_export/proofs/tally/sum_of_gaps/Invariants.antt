use Rattle.std.proofs.Common.{◌≡◌, ◌+◌, ◌*◌, ◌≤◌, length, sum_by}
use Rattle.tf_words.specs.Words.{lines}
use Rattle.tf_export.specs.Tally.{gap_or_zero}
use Rattle.tf_export.proofs.tally.sum_of_gaps.Given as goal

-- the gaps so far are summed
abbrev pub invariant-loop-rest : goal.invariant-loop-rest
invariant-loop-rest l = record {
  summed : l.sum + sum_by gap_or_zero (lines l.rest) ≡ sum_by gap_or_zero (lines l.text);
  room : l.sum + 18446744073709551616 * length l.rest ≤ 18446744073709551616 * length l.text;
}

abbrev pub decreases-loop-rest : goal.decreases-loop-rest
decreases-loop-rest l = length l.rest
