use Rattle.std.proofs.Common.{◌≤◌}
use Rattle.tf_search.proofs.multiplier_search.share_heights.Given as goal

abbrev pub invariant-loop-place : goal.invariant-loop-place
invariant-loop-place l = l.best ≤ l.place
