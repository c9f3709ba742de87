use Rattle.std.proofs.lemmas.Result.{on_ok_weaker}
use Rattle.tf_picture.proofs.Texts.{six}
use Rattle.tf_picture.proofs.axis.push_axis.Goals as goal

pub returns : goal.returns
returns g c =
    on_ok_weaker c.push_end.result
    (λ e. six _ _ _ _ _ _ _ _ _ _ _ _ _
    c.in_ok-extend_from_slice.ensures.items c.in_ok-push_lines.ensures
    c.in_ok-extend_from_slice-2.ensures.items c.in_ok-push_times.ensures
    c.in_ok-extend_from_slice-3.ensures.items e)
    c.push_end.ensures
