use Rattle.std.proofs.Common.{◌≡◌, ◌++◌, take}
use Rattle.std.specs.List.{flat_map}
use Rattle.tf_picture.specs.Picture.{bar_if_shown}
use Rattle.tf_picture.proofs.bars.push_bars.Given as goal

abbrev pub invariant-loop-bar : goal.invariant-loop-bar
invariant-loop-bar g l = l.text.items ≡ l.initial.text.items
    ++ flat_map (bar_if_shown l.frame) (take l.bar-index l.bars)
