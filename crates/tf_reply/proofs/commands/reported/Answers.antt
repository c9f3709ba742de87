use Rattle.std.proofs.Common.{ℕ, List, ap, subst, ◌∙◌}
use Rattle.tf_text.specs.declared.answer.layout.Layout.TheVariants.{Two}
use Rattle.tf_asked.specs.Asking.{requested}
use Rattle.tf_command.specs.Ending.{EndsEvaluating, EndsSolving}
use Rattle.tf_reply.specs.Replies.{IsOverBoth, printed, said}
use Rattle.tf_reply.proofs.Replied.{reported}
use Rattle.tf_reply.proofs.commands.reported.Goals as goal

pub returns : goal.returns
returns g c =
    let instance = c.args.asked.now.instance.now in
    let evaluation = c.in_ok-evaluation.evaluation in
    reported (EndsSolving g.row.A.Denot (requested c.args.asked.now.options c.args.layout))
    (EndsEvaluating g.row.A.Denot c.args.detail (requested c.args.asked.now.options Two))
    instance c.in_ok-reply.reply evaluation c.if-reply-ne0.false c.in_ok-reply.ensures
    (subst (λ (answer : List ℕ). IsOverBoth
    (EndsEvaluating g.row.A.Denot c.args.detail (requested c.args.asked.now.options Two))
    instance answer (printed evaluation) (said evaluation) evaluation.status)
    (c.as_slice-answer.ensures.value ∙ ap (λ v. v.items) c.inner.ensures) c.in_ok-evaluation.ensures)
    c.behind.result c.behind.ensures
