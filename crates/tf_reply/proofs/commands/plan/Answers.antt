use Rattle.tf_command.specs.Planning.{EndsPlanning}
use Rattle.tf_reply.proofs.Replied.{replied}
use Rattle.tf_reply.proofs.commands.plan.Goals as goal

pub returns-in-Ok-Ok : goal.returns-in-Ok-Ok
returns-in-Ok-Ok g c =
    let asked = c.in-Ok-Ok.ensures.asked in
    replied (c.in-Ok-Ok.ensures.formed, c.in-Ok-Ok.ensures'.0) (asked.request _) (EndsPlanning g.row.A.Denot)
    asked.instance c.planned.result c.planned.ensures
