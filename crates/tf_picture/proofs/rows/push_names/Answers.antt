use Rattle.tf_picture.proofs.rows.push_names.Goals as goal

pub returns : goal.returns
returns g c =
    rw (c.down.ensures.value, c.bottom.ensures.value) at c.push_parts.ensures
