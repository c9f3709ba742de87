use Rattle.std.proofs.Common.{◌≤◌}
use Rattle.tf_search.proofs.ranked.count_longer.Given as goal

abbrev pub invariant-loop-k : goal.invariant-loop-k
invariant-loop-k g l = l.count ≤ l.k
