use mir.Val.{SFits, to_z, of_z}
use mir.Syntax.{w64, w128}
use Rattle.std.proofs.Common.{rules, ◌≡◌, ◌<◌, ℤ, ◌-ℤ◌, List, length, get_or, sym, ap, ◌∙◌, arith, IsTrue}
use Rattle.std.proofs.lemmas.Int.{to_z-of_z}
use Rattle.std.proofs.lemmas.List.{get_or_default}
use Rattle.tf_model.specs.SchedulingTask.{JobData, costs_of, job_data}
use Rattle.tf_model.specs.ClassTable.{is_costed, is_due}
use Rattle.tf_model.specs.Steps.{Steps, no_steps, step_value}
use Rattle.tf_schedule.specs.Piece.{as_time}
use Rattle.tf_schedule.proofs.Times.{pos_time}
use Rattle.tf_schedule.proofs.Prices.{costed_price, due_price}
use Rattle.tf_schedule.proofs.cost.price.Goals as goal

pub returns-then-is_costed : goal.returns-then-is_costed
returns-then-is_costed g c =
    let costed : IsTrue (is_costed c.args.task.now.class) =
    ap is_costed (sym c.class-class.ensures.class) ∙ sym c.is_costed.ensures
    ∙ c.if-is_costed.true in
    let fits : SFits w128 c.from.result = search rules in
    let small : SFits w64 c.value_at.result = search rules in
    let inside : c.place.result < length c.step_costs.result.now =
    omega (
      arith,
      c.place.ensures.value,
      c.requires.job,
      ap length c.step_costs.ensures.value,
      c.class-class.ensures.sound.costed costed,
    ) in
    let steps : c.index-step_costs-place.result ≡ costs_of c.args.task.now c.args.job =
    c.index-step_costs-place.is
    ∙ get_or_default c.step_costs.result.now c.place.result c.index-step_costs-place.result
    no_steps inside
    ∙ ap (λ (xs : List Steps). get_or xs c.place.result no_steps) c.step_costs.ensures.value
    ∙ ap (λ n. get_or c.args.task.now.costs n no_steps) c.place.ensures.value in
    to_z-of_z w128 c.from.result fits
    ∙ c.from.ensures
    ∙ to_z-of_z w64 c.value_at.result small
    ∙ c.value_at.ensures.value
    ∙ ap (λ (z : ℤ). step_value c.index-step_costs-place.result (as_time z))
    (to_z-of_z w64 c.args.c c.ranges.c)
    ∙ ap (λ (s : Steps). step_value s (as_time c.args.c)) steps
    ∙ costed_price c.args.task.now c.args.job (as_time c.args.c) costed

pub returns-then-is_due : goal.returns-then-is_due
returns-then-is_due g c =
    let late : IsTrue (is_due c.args.task.now.class) = ap is_due (sym c.class-class.ensures.class)
    ∙ sym c.is_due.ensures ∙ c.if-is_due.true in
    let due : ℤ = c.from-then-is_due-2.inside.due in
    let is : due ≡ (job_data c.args.task.now c.args.job).due =
    ap (λ (j : JobData). j.due) (c.from-then-is_due-2.view_is ∙ c.job.ensures.value) in
    let wide : SFits w128 c.from-then-is_due.result = search rules in
    let wide_due : SFits w128 c.from-then-is_due-3.result = search rules in
    let small : SFits w64 due = search rules in
    let time : to_z w128 (of_z w128 c.from-then-is_due.result) ≡ c.args.c =
    to_z-of_z w128 c.from-then-is_due.result wide ∙ c.from-then-is_due.ensures
    ∙ to_z-of_z w64 c.args.c c.ranges.c in
    let date : to_z w128 (of_z w128 c.from-then-is_due-3.result) ≡ due =
    to_z-of_z w128 c.from-then-is_due-3.result wide_due ∙ c.from-then-is_due-3.ensures
    ∙ to_z-of_z w64 due small in
    let fits : SFits w128 (c.args.c -ℤ due) = search rules in
    ap (λ (z : ℤ). to_z w128 (of_z w128 (z -ℤ to_z w128 (of_z w128 c.from-then-is_due-3.result))))
    time
    ∙ ap (λ (z : ℤ). to_z w128 (of_z w128 (c.args.c -ℤ z))) date
    ∙ to_z-of_z w128 (c.args.c -ℤ due) fits
    ∙ ap (λ (z : ℤ). c.args.c -ℤ z) is
    ∙ ap (λ (z : ℤ). z -ℤ (job_data c.args.task.now c.args.job).due)
    (sym (pos_time c.args.c c.requires.time.0))
    ∙ due_price c.args.task.now c.args.job (as_time c.args.c) late
