use Rattle.std.proofs.Common.{◌≡◌, ◌++◌, ◌+◌, ◌-◌, ◌/◌, ◌≤◌}
use Rattle.std.specs.List.{flat_map, range_with_len}
use Rattle.tf_picture.specs.Picture.{time_labels_at}
use Rattle.tf_picture.proofs.axis.push_times.Given as goal

abbrev pub invariant-loop-n : goal.invariant-loop-n
invariant-loop-n g l = record {
  written : l.text.items ≡ l.initial.text.items
      ++ flat_map (time_labels_at l.frame l.step)
      (range_with_len (l.frame.from / l.step) (l.n - l.frame.from / l.step));
  few : l.n - l.frame.from / l.step ≤ l.frame.to / l.step + 1 - l.frame.from / l.step;
}
