use Rattle.tf_picture.proofs.Texts.{five}
use Rattle.tf_picture.proofs.axis.push_end_mark.Goals as goal

pub returns : goal.returns
returns g c =
    five _ _ _ _ _ _ _ _ _ _ _
    c.in_ok-extend_from_slice.ensures.items c.in_ok-push_line.ensures
    c.in_ok-extend_from_slice-2.ensures.items c.in_ok-push_time.ensures
    c.in_ok-extend_from_slice-3.ensures.items
