use Rattle.std.proofs.Common.{◌≡◌, sum_by}
use Rattle.std.specs.List.{range_with_len}
use Rattle.tf_check.specs.Sides.{counted}
use Rattle.tf_check.proofs.split.Split.work.Given as goal

-- the times of the jobs so far
abbrev pub invariant-loop-k : goal.invariant-loop-k
invariant-loop-k g l = l.work ≡ sum_by (counted l.task l.self.side) (range_with_len 1 l.k)
