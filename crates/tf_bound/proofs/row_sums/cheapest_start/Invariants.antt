use Rattle.std.proofs.Common.{ℕ, ◌*◌, ◌≤◌, ◌<◌}
use Rattle.tf_model.specs.Limit.{limit}
use Rattle.tf_bound.specs.RowSums.{IsReached}
use Rattle.tf_bound.proofs.RowSums.{paid_at}
use Rattle.tf_bound.proofs.row_sums.cheapest_start.Given as goal

-- the best price is at most that of each start so far, and that of the last one
abbrev pub invariant-loop-start : goal.invariant-loop-start
invariant-loop-start l = record {
  so_far : (s : ℕ) → l.job.release ≤ s → s < l.start
      → l.best.price ≤ paid_at l.prices l.job.time l.job.by_unit l.job.slope l.job.due s;
  last : l.best.price ≤ paid_at l.prices l.job.time l.job.by_unit l.job.slope l.job.due l.job.last;
  reached : IsReached l.prices (l.job.release, l.job.last) l.job.time l.job.by_unit l.job.slope
      l.job.due l.best.price l.best.start;
  small : l.best.price ≤ 2 * limit;
}
