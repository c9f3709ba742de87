use Rattle.std.proofs.Common.{◌≡◌, ◌++◌, take}
use Rattle.std.specs.List.{flat_map}
use Rattle.tf_picture.specs.Picture.{part}
use Rattle.tf_picture.proofs.writing.push_each.Given as goal

abbrev pub invariant-loop-before : goal.invariant-loop-before
invariant-loop-before g l = l.text.items ≡ l.initial.text.items
    ++ flat_map (λ p. part p.0.now p.1) (take l.before-index l.parts)
