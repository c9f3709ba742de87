use Rattle.std.proofs.Common.{IfOk, subst}
use Rattle.tf_text.specs.declared.answer.layout.Layout.TheVariants.{Two}
use Rattle.tf_evaluate.specs.declared.evaluation.Detail.{Detail}
use Rattle.tf_command.specs.Ending.{EndsEvaluating}
use Rattle.tf_reply.specs.Asked.{request_in, instance_part, answer_part}
use Rattle.tf_reply.specs.WellFormed.{IsWellFormed}
use Rattle.tf_reply.specs.Replies.{Replies, IfWellFormed, IsOverBoth}
use Rattle.tf_reply.proofs.Replied.{replied_both}
use Rattle.tf_reply.proofs.commands.evaluate.Goals as goal

pub returns-in-Ok : goal.returns-in-Ok
returns-in-Ok g c =
    let asked = c.in-Ok.ensures.asked in
    let asking = c.args.asking.now in
    let texts = c.args.texts.now in
    subst
    (λ (detail : Detail). IfOk c.evaluated.result (Replies (IfWellFormed (IsWellFormed asking texts)
    (IsOverBoth (EndsEvaluating g.row.A.Denot detail (request_in asking texts Two))
    (instance_part asking texts) (answer_part asking texts)))))
    c.detail.ensures
    (replied_both c.in-Ok.ensures.formed (asked.request _)
    (EndsEvaluating g.row.A.Denot c.detail.result) asked.instance asked.answer c.evaluated.result
    c.evaluated.ensures)
