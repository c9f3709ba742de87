use Rattle.std.proofs.Common.{◌≡◌, length}
use Rattle.tf_random.specs.Table.{route_after}
use Rattle.tf_random.proofs.times.route.Given as goal

-- the first places are drawn
abbrev pub invariant-loop-place : goal.invariant-loop-place
invariant-loop-place l = record {
  drawn : l.machines.items ≡ route_after l.plan l.k l.place;
  all : length l.machines.items ≡ l.plan.machines;
}
