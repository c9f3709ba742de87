use Rattle.std.proofs.lemmas.Result.{on_ok_weaker}
use Rattle.tf_picture.proofs.Texts.{front_written}
use Rattle.tf_picture.proofs.front.push_front.Goals as goal

pub returns : goal.returns
returns g c =
    on_ok_weaker c.push_sizes.result
    (λ e. front_written c.args.heading.now c.args.size c.args.strips.now _ _ _ _
    (rw c.height.ensures at c.in_ok-push_opening.ensures)
    (rw (c.as_slice.ensures.value, c.in_ok-title.ensures) at c.in_ok-push_titles.ensures) e)
    c.push_sizes.ensures
