use Rattle.std.proofs.lemmas.Result.{on_ok_weaker}
use Rattle.tf_picture.proofs.Texts.{five}
use Rattle.tf_picture.proofs.rows.push_rows.Goals as goal

pub returns : goal.returns
returns g c =
    on_ok_weaker c.push_names.result
    (λ e. five _ _ _ _ _ _ _ _ _ _ _
    c.in_ok-extend_from_slice.ensures.items c.in_ok-push_each_row.ensures
    c.in_ok-push_font.ensures c.in_ok-push_each_number.ensures e)
    c.push_names.ensures
