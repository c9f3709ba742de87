use Rattle.std.proofs.lemmas.Result.{on_ok_weaker}
use Rattle.tf_picture.proofs.Texts.{three}
use Rattle.tf_picture.proofs.front.push_opening.Goals as goal

pub returns : goal.returns
returns g c =
    on_ok_weaker c.push_parts-3.result
    (λ e. three _ _ _ _ _ _ _
    (rw (c.width-width.ensures, c.unit.ensures) at c.in_ok-push_parts.ensures)
    (rw (c.height.ensures, c.unit-2.ensures) at c.in_ok-push_parts-2.ensures) e)
    c.push_parts-3.ensures
