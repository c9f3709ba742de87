use Rattle.std.proofs.Common.{◌≡◌, ◌+◌, ◌*◌, ◌^◌, ℤ, pos, ◌+ℤ◌, ◌-ℤ◌, ◌≤ℤ◌}
use Rattle.std.specs.List.{range_with_len}
use Rattle.tf_problem.specs.ProblemBounds.{int_sum}
use Rattle.tf_problem.specs.Potentials.{potential_of_end, potential_after, potential_before}
use Rattle.tf_bound.proofs.potentials.sum_of.Given as goal

abbrev pub invariant-loop-k : goal.invariant-loop-k
invariant-loop-k g l = record {
  sum : l.sum
      ≡ potential_of_end l.numbers
      +ℤ int_sum (λ j. potential_after l.numbers j +ℤ potential_before l.numbers j)
      (range_with_len 1 l.k);
  low : (pos 0 -ℤ pos ((l.k + 1) * 2 ^ 64)) ≤ℤ l.sum;
  high : l.sum ≤ℤ pos ((l.k + 1) * 2 ^ 64);
}
