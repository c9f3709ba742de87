use Rattle.std.proofs.Common.{◌≡◌, ◌*◌, ◌≤◌, sum_by}
use Rattle.std.specs.List.{range_with_len}
use Rattle.tf_model.specs.Limit.{limit}
use Rattle.tf_problem.specs.Split.{counted}
use Rattle.tf_bound.specs.Split.{marked}
use Rattle.tf_bound.proofs.split.work.Given as goal

-- the times of the jobs so far
abbrev pub invariant-loop-k : goal.invariant-loop-k
invariant-loop-k g l = record {
  value : l.work
      ≡ sum_by (counted l.task l.pair.first l.pair.second (marked l.marks)) (range_with_len 1 l.k);
  small : l.work ≤ l.k * limit;
}
