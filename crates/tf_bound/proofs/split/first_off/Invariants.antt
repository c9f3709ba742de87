use Rattle.std.proofs.Common.{◌≡◌, ◌≤◌, ℕ, true}
use Rattle.tf_problem.specs.Split.{keeps_side}
use Rattle.tf_bound.specs.Split.{marked}
use Rattle.tf_bound.proofs.split.first_off.Given as goal

-- the jobs so far keep the condition of their side
abbrev pub invariant-loop-k : goal.invariant-loop-k
invariant-loop-k g l = (j : ℕ) → 1 ≤ j → j ≤ l.k
    → keeps_side l.task l.pair.first l.pair.second (marked l.marks) l.pair.delta l.pair.by_first j
    ≡ true
