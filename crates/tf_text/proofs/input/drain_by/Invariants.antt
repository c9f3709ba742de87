use Rattle.std.proofs.Common.{◌≡◌, ℕ, ◌+◌, ◌<◌, ◌≤◌, true, false, List, length}
use Rattle.std.specs.Io.KnownBytes.{Consumes}
use Rattle.tf_model.specs.Limit.{most_bytes}
use Rattle.tf_text.specs.Counted.{inner_of, pulled_of, has_failed}
use Rattle.tf_text.proofs.input.drain_by.Given as goal

-- what the reader gave was taken, and nothing failed
abbrev pub invariant-loop-left : goal.invariant-loop-left
invariant-loop-left g l =
    let remaining = g.R.Read.remaining in
    record {
      room : 0 < length l.chunk;
      taken : (bytes : List ℕ) × (length bytes + l.left ≡ most_bytes + 1)
          × Consumes (remaining (inner_of l.fn.reader)) (remaining (inner_of l.reader)) bytes
          × g.F.Feed.Takes l.fn.into bytes l.into;
      counted : pulled_of l.reader + l.left ≤ pulled_of l.fn.reader + (most_bytes + 1);
      unfailed : l.left < most_bytes + 1 → has_failed l.reader ≡ false;
      failed_before : has_failed l.fn.reader ≡ true
          → (l.reader ≡ l.fn.reader) × (l.left ≡ most_bytes + 1);
    }

abbrev pub decreases-loop-left : goal.decreases-loop-left
decreases-loop-left g l = l.left
