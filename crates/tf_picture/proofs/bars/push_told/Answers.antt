use Rattle.std.proofs.Common.{◌≡◌, ◌++◌, ap, ◌∙◌, rules}
use Rattle.std.proofs.lemmas.Result.{on_ok_weaker}
use Rattle.tf_schedule.specs.Piece.{as_time}
use Rattle.tf_picture.proofs.Texts.{told_written}
use Rattle.tf_picture.proofs.bars.push_told.Goals as goal

pub returns : goal.returns
returns g c =
    let job : c.from.result ≡ c.args.piece.now.job = search rules in
    let machine : c.from-2.result ≡ c.args.piece.now.machine = search rules in
    let start : c.steps.result ≡ as_time c.args.piece.now.start = search rules in
    let stop : c.steps-2.result ≡ as_time c.args.piece.now.stop = search rules in
    on_ok_weaker c.push_parts.result
    (λ e. e ∙ ap (λ text. c.args.text.now.items ++ text)
    (told_written c.args.piece.now _ _ _ _ job machine start stop))
    c.push_parts.ensures
