use Rattle.std.proofs.Common.{◌≡◌, get_or, refl, arith}
use Rattle.tf_words.proofs.FirstLine.{begins_with}
use Rattle.tf_read.proofs.UsualSteps.{step_first}
use Rattle.tf_read.proofs.cost_field.usual_step.Goals as goal

pub returns-then-is_over-clause-step : goal.returns-then-is_over-clause-step
returns-then-is_over-clause-step c =
    let comma : get_or c.args.text.now 0 0 ≡ 44 = omega arith in
    let colon : get_or c.in_ok-time.after.now 0 0 ≡ 58 = omega arith in
    let time = c.in_ok-time.ensures.digits in
    let value = c.in_ok-value.ensures.digits in
    step_first _ _ _ _ _ time.0 value.0 _ _
    (begins_with _ _ 44 c.in-44.len_at_least comma refl) time.2
    (begins_with _ _ 58 c.in-58.len_at_least colon refl) value.2 time.1
    c.in_ok-time.ensures.few value.1 c.in_ok-value.ensures.few
    (c.is_over.ensures c.if-is_over.true)
