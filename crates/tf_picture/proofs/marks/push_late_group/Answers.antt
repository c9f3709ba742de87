use Rattle.tf_picture.specs.Picture.{late_if_shown}
use Rattle.tf_picture.proofs.Texts.{grouped}
use Rattle.tf_picture.proofs.marks.push_late_group.Goals as goal

pub returns : goal.returns
returns g c =
    grouped (late_if_shown c.args.frame.now c.args.dates.now) c.args.bars.now c.loop-bar.bar-index _ _ _ _ _ _
    c.in_ok-extend_from_slice.ensures.items c.loop-bar.invariant c.loop-bar-test.false
    c.in_ok-extend_from_slice-2.ensures.items
