use Rattle.tf_picture.specs.Picture.{number}
use Rattle.tf_picture.proofs.Texts.{each_next}
use Rattle.tf_picture.proofs.rows.push_each_number.Goals as goal

pub loop-place-preserved : goal.loop-place-preserved
loop-place-preserved g c =
    each_next (number c.args.frame.now) c.loop-place.place c.args.text.now.items _ _
    c.loop-place.invariant c.in_ok-push_machine.ensures
