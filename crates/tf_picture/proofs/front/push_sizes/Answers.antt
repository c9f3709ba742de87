use Rattle.tf_picture.proofs.front.push_sizes.Goals as goal

pub returns : goal.returns
returns g c =
    rw (c.from.ensures, c.from-2.ensures) at c.push_parts.ensures
