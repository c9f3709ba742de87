use Rattle.std.proofs.Common.{◌≡◌, ◌*◌, ◌^◌, ◌≤◌, max, map, slice_index, sum_by}
use Rattle.std.specs.List.{fold, range_with_len}
use Rattle.tf_bound.specs.Delays.{delay_on}
use Rattle.tf_bound.proofs.potentials.delay_of.Given as goal

abbrev pub invariant-loop-machine : goal.invariant-loop-machine
invariant-loop-machine l = record {
  ended : l.ended ≡ sum_by (slice_index l.first) (range_with_len 0 l.machine);
  begun : l.begun ≡ sum_by (slice_index l.second) (range_with_len 0 l.machine);
  delay : l.delay ≡ fold max 0 (map (delay_on l.first l.second) (range_with_len 0 l.machine));
  ended_small : l.ended ≤ l.machine * 2 ^ 64;
  begun_small : l.begun ≤ l.machine * 2 ^ 64;
  small : l.delay ≤ l.machine * 2 ^ 64;
}
