use Rattle.std.proofs.Common.{◌≡◌, ◌≤◌, ℕ, false}
use Rattle.tf_problem.specs.Split.{reaches_delta}
use Rattle.tf_bound.specs.Split.{marked}
use Rattle.tf_bound.proofs.split.is_reached.Given as goal

-- none of the jobs so far reaches delta
abbrev pub invariant-loop-k : goal.invariant-loop-k
invariant-loop-k g l = (j : ℕ) → 1 ≤ j → j ≤ l.k
    → reaches_delta l.task l.pair.first l.pair.second (marked l.marks) l.pair.delta l.pair.by_first j
    ≡ false
