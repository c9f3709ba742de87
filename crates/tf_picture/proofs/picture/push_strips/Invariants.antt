use Rattle.std.proofs.Common.{◌≡◌, ◌++◌}
use Rattle.std.specs.List.{flat_map, range_with_len}
use Rattle.tf_picture.specs.Picture.{strip_at}
use Rattle.tf_picture.proofs.picture.push_strips.Given as goal

abbrev pub invariant-loop-number : goal.invariant-loop-number
invariant-loop-number g l = l.text.items ≡ l.initial.text.items
    ++ flat_map (strip_at l.shown.step l.shown.bars.items l.shown.resumed.items l.dates l.strips)
    (range_with_len 0 l.number)
