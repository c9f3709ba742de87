use Rattle.std.proofs.Common.{rules}
use Rattle.tf_text.proofs.Written.{front_written}
use Rattle.tf_text.proofs.answer.writing.front_text.Goals as goal

pub returns : goal.returns
returns g c =
    front_written c.args.layout c.args.sheet.now _ _ _ _ c.heading.ensures (search rules)
    (search rules) c.in_ok-push_front.ensures
