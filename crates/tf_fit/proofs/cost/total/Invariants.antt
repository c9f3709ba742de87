use Rattle.std.proofs.Common.{◌≡◌, ◌≤◌}
use Rattle.tf_schedule.specs.Lanes.{stop_in}
use Rattle.tf_fit.specs.CostBy.{sum_at}
use Rattle.tf_fit.proofs.cost.total.Given as goal

abbrev pub invariant-loop-k : goal.invariant-loop-k
invariant-loop-k g l = record {
  value : l.sum ≡ sum_at l.goal l.task (stop_in l.jobs) l.k;
  small : l.sum ≤ l.most;
}
