use Rattle.std.proofs.Common.{◌≡◌, ℕ, ◌+◌, ◌≤◌, map}
use Rattle.std.specs.List.{range_with_len}
use Rattle.tf_problem.specs.ProblemBounds.{arcs_from, arcs_to, moved, numerator}
use Rattle.tf_bound.proofs.arc_multipliers.moved_multipliers.Given as goal

abbrev pub invariant-loop-k : goal.invariant-loop-k
invariant-loop-k g l = record {
  items : l.moved.items ≡ map (moved l.task l.v l.l) (range_with_len 1 l.k);
  enough : (j : ℕ) → 1 ≤ j → j ≤ l.k
      → arcs_to l.task l.l j ≤ numerator l.v j + arcs_from l.task l.l j;
}
