use Rattle.std.proofs.Common.{◌≡◌, ◌≤◌, ℕ, false}
use Rattle.tf_check.specs.Bound.{reaches_delta}
use Rattle.tf_check.proofs.split.Split.is_reached.Given as goal

-- none of the jobs so far reaches delta
abbrev pub invariant-loop-k : goal.invariant-loop-k
invariant-loop-k g l = (j : ℕ) → 1 ≤ j → j ≤ l.k
    → reaches_delta l.task l.self.side l.self.delta l.self.first j ≡ false
