use Rattle.std.proofs.Common.{ap, ◌∙◌}
use Rattle.tf_command.specs.Ending.{EndsEvaluating, EndsSolving}
use Rattle.tf_reply.specs.Asked.{request_in}
use Rattle.tf_reply.proofs.Replied.{replied_report}
use Rattle.tf_reply.proofs.commands.report_answer.Goals as goal

pub returns-in-Ok : goal.returns-in-Ok
returns-in-Ok g c =
    let asked = c.in-Ok.ensures.asked in
    let same = asked.request _ ∙ ap (request_in c.args.asking.now c.args.texts.now) c.layout.ensures in
    replied_report c.in-Ok.ensures.formed (EndsSolving g.row.A.Denot) (EndsEvaluating g.row.A.Denot)
    same (asked.request _) c.detail.ensures asked.instance c.reported.result c.reported.ensures
