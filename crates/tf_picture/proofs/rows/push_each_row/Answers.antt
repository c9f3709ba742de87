use Rattle.tf_picture.specs.Picture.{row}
use Rattle.tf_picture.proofs.Texts.{each_next}
use Rattle.tf_picture.proofs.rows.push_each_row.Goals as goal

pub loop-place-preserved : goal.loop-place-preserved
loop-place-preserved g c =
    each_next (row c.args.frame.now) c.loop-place.place c.args.text.now.items _ _
    c.loop-place.invariant c.in_ok-push_row.ensures
