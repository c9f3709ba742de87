use Rattle.std.proofs.Common.{◌≡◌, sum_by, slice_index, take}
use Rattle.tf_bound.proofs.route_time.time_on.Given as goal

abbrev pub invariant-loop-machine : goal.invariant-loop-machine
invariant-loop-machine l = l.time ≡ sum_by (slice_index l.times) (take l.machine-index l.part)
