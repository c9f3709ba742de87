use Rattle.tf_picture.proofs.Texts.{parts_written}
use Rattle.tf_picture.proofs.writing.push_parts.Goals as goal

pub returns : goal.returns
returns g c =
    parts_written c.args.parts.now c.args.end.now _ _ _
    c.in_ok-push_each.ensures c.in_ok-extend_from_slice.ensures.items
