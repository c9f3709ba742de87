use Rattle.std.proofs.Common.{ap, ◌∙◌}
use Rattle.tf_command.specs.Ending.{EndsSolving}
use Rattle.tf_reply.specs.Asked.{request_in}
use Rattle.tf_reply.proofs.Replied.{replied}
use Rattle.tf_reply.proofs.commands.solve.Goals as goal

pub returns-in-Ok : goal.returns-in-Ok
returns-in-Ok g c =
    let asked = c.in-Ok.ensures.asked in
    let same = asked.request _ ∙ ap (request_in c.args.asking.now c.args.texts.now) c.layout.ensures in
    replied c.in-Ok.ensures.formed same (EndsSolving g.row.A.Denot) asked.instance c.solved.result
    c.solved.ensures
