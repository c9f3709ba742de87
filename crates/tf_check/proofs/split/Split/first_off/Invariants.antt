use Rattle.std.proofs.Common.{◌≡◌, ◌≤◌, ℕ, true}
use Rattle.tf_check.specs.Bound.{keeps_side}
use Rattle.tf_check.proofs.split.Split.first_off.Given as goal

-- the jobs so far keep the condition of their side
abbrev pub invariant-loop-k : goal.invariant-loop-k
invariant-loop-k g l = (j : ℕ) → 1 ≤ j → j ≤ l.k
    → keeps_side l.task l.self.side l.self.delta l.self.first j ≡ true
