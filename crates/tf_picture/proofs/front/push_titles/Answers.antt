use Rattle.tf_picture.proofs.Texts.{four}
use Rattle.tf_picture.proofs.front.push_titles.Goals as goal

pub returns : goal.returns
returns g c =
    four _ _ _ _ _ _ _ _ _
    c.in_ok-extend_from_slice.ensures.items c.in_ok-extend_from_slice-2.ensures.items
    c.in_ok-extend_from_slice-3.ensures.items c.in_ok-extend_from_slice-4.ensures.items
