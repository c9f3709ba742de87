use Rattle.std.proofs.Common.{◌≡◌, ◌≤◌, drop}
use Rattle.tf_model.specs.Limit.{limit}
use Rattle.tf_orders.specs.Laying.{with_route}
use Rattle.tf_orders.proofs.laying.Laying.add_route.Given as goal

abbrev pub invariant-loop-place : goal.invariant-loop-place
invariant-loop-place g l = record {
  pieces : with_route l.self.pieces l.job l.free l.times (drop l.place-index l.route)
      ≡ with_route l.initial.self.pieces l.job l.release l.times l.route;
  small : l.free ≤ limit;
  machines : l.self.machines ≡ l.initial.self.machines;
}
