use Rattle.std.proofs.Common.{◌≡◌, length}
use Rattle.std.specs.List.{range_with_len}
use Rattle.tf_random.proofs.times.machines_to.Given as goal

abbrev pub invariant-loop-place : goal.invariant-loop-place
invariant-loop-place l = record {
  machines : l.machines.items ≡ range_with_len 1 l.place;
  len : length l.machines.items ≡ l.place;
}
