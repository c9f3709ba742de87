use Rattle.tf_picture.proofs.Texts.{three}
use Rattle.tf_picture.proofs.links.push_links.Goals as goal

pub returns : goal.returns
returns g c =
    three _ _ _ _ _ _ _
    c.in_ok-extend_from_slice.ensures.items c.in_ok-push_each.ensures
    c.in_ok-extend_from_slice-2.ensures.items
