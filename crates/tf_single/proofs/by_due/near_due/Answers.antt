use Rattle.std.proofs.Common.{◌≡◌, ◌∙◌, ◌+◌, ap, subst, rules, to_z, of_z, arith}
use Rattle.std.proofs.lemmas.Int.{to_z-of_z}
use mir.Syntax.{w64}
use Rattle.tf_check.specs.Ranked.{IsBetween}
use Rattle.tf_model.specs.SchedulingTask.{job_data}
use Rattle.tf_single.proofs.ByDue.{between_more, span_near}
use Rattle.tf_single.proofs.by_due.near_due.Goals as goal

pub loop-k-preserved : goal.loop-k-preserved
loop-k-preserved g c =
    let due : to_z w64 (of_z w64 c.due.result) ≡ (job_data c.args.task.now (c.loop-k.k + 1)).due =
    to_z-of_z w64 c.due.result (search rules) ∙ c.due.ensures
    ∙ ap (λ j. (job_data c.args.task.now j).due) c.at.ensures in
    between_more c.loop-k.span c.with-span.result (λ j. (job_data c.args.task.now j).due)
    c.loop-k.k c.loop-k.invariant (subst (IsBetween c.with-span.result) due c.with-span.ensures.more)
    c.with-span.ensures.all

pub returns : goal.returns
returns g c =
    span_near c.args.task.now c.loop-k.span c.near_least.result c.near_least.ensures
    (λ j is. c.loop-k.invariant j is.0 (omega (arith, is.1, c.loop-k-test.false, c.len-k-end.ensures.value)))
