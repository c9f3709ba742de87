use Rattle.std.proofs.Common.{◌≡◌, rules}
use Rattle.std.proofs.lemmas.Result.{on_ok_weaker}
use Rattle.tf_picture.proofs.Texts.{late_written}
use Rattle.tf_picture.proofs.marks.push_late.Goals as goal

pub returns : goal.returns
returns g c =
    let job : c.from.result ≡ c.args.piece.now.job = search rules in
    on_ok_weaker c.push_parts.result
    (λ e. late_written c.args.frame.now c.args.steps c.args.piece.now _ _ _
    (rw c.bar.ensures.value at c.in_ok-push_rect.ensures) (rw job at e))
    c.push_parts.ensures
