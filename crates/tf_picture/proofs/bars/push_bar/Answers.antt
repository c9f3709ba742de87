use Rattle.std.proofs.lemmas.Result.{on_ok_weaker}
use Rattle.tf_picture.proofs.Texts.{bar_written}
use Rattle.tf_picture.proofs.bars.push_bar.Goals as goal

pub returns : goal.returns
returns g c =
    on_ok_weaker c.push_told.result
    (λ e. bar_written c.args.frame.now c.args.bar.now _ _ _ _ _
    (rw c.bar.ensures.value at c.in_ok-push_rect.ensures)
    (rw c.fill.ensures at c.in_ok-extend_from_slice.ensures.items)
    (rw (c.edge.ensures, c.width.ensures.value) at c.in_ok-extend_from_slice-2.ensures.items) e)
    c.push_told.ensures
