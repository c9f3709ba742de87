use Rattle.tf_picture.specs.Picture.{number_if_shown}
use Rattle.tf_picture.proofs.Texts.{grouped}
use Rattle.tf_picture.proofs.labels.push_labels.Goals as goal

pub returns : goal.returns
returns g c =
    grouped (number_if_shown c.args.frame.now) c.args.bars.now c.loop-bar.bar-index _ _ _ _ _ _
    (rw c.font.ensures.value at c.in_ok-push_parts.ensures) c.loop-bar.invariant c.loop-bar-test.false
    c.in_ok-extend_from_slice.ensures.items
