use Rattle.std.proofs.Common.{◌≡◌, ◌+◌, ◌≤◌, drop}
use Rattle.tf_model.specs.Limit.{limit}
use Rattle.tf_orders.specs.Laying.{with_job}
use Rattle.tf_orders.proofs.laying.Laying.add_job.Given as goal

abbrev pub invariant-loop-time : goal.invariant-loop-time
invariant-loop-time g l = record {
  pieces : with_job l.self.pieces l.job l.machine l.free (drop l.time-index l.times)
      ≡ with_job l.initial.self.pieces l.job l.initial.machine l.release l.times;
  machine : l.machine ≡ l.initial.machine + l.time-index;
  small : l.free ≤ limit;
  machines : l.self.machines ≡ l.initial.self.machines;
}
