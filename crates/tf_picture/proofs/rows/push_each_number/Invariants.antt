use Rattle.std.proofs.Common.{◌≡◌, ◌++◌}
use Rattle.std.specs.List.{flat_map, range_with_len}
use Rattle.tf_picture.specs.Picture.{number}
use Rattle.tf_picture.proofs.rows.push_each_number.Given as goal

abbrev pub invariant-loop-place : goal.invariant-loop-place
invariant-loop-place g l = l.text.items ≡ l.initial.text.items
    ++ flat_map (number l.frame) (range_with_len 1 l.place)
