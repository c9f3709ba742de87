use Rattle.tf_command.specs.Ending.{EndsChecking}
use Rattle.tf_reply.proofs.Replied.{replied_both}
use Rattle.tf_reply.proofs.commands.check.Goals as goal

pub returns-in-Ok : goal.returns-in-Ok
returns-in-Ok g c =
    let asked = c.in-Ok.ensures.asked in
    replied_both c.in-Ok.ensures.formed (asked.request _) (EndsChecking g.row.A.Denot) asked.instance
    asked.answer c.checked.result c.checked.ensures
