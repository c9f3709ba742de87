use Rattle.tf_command.specs.Ending.{EndsBounding}
use Rattle.tf_reply.proofs.Replied.{replied}
use Rattle.tf_reply.proofs.commands.bound.Goals as goal

pub returns-in-Ok-Ok : goal.returns-in-Ok-Ok
returns-in-Ok-Ok g c =
    let asked = c.in-Ok-Ok.ensures.asked in
    replied (c.in-Ok-Ok.ensures.formed, c.in-Ok-Ok.ensures'.0) (asked.request _) (EndsBounding g.row.A.Denot)
    asked.instance c.bounded.result c.bounded.ensures
