use Rattle.std.proofs.Common.{rules, sym, ap, ◌∙◌}
use Rattle.tf_model.specs.declared.problem.Problem.{Problem}
use Rattle.tf_model.specs.Timetable.{Timetable}
use Rattle.tf_posed.specs.ProblemCost.{problem_cost, problem_cost_by}
use Rattle.tf_schedule.specs.Drawing.{drawing}
use mir.Syntax.{w128}
use Rattle.std.proofs.lemmas.Int.{to_z-of_z}
use Rattle.tf_plan.proofs.Judged.{judged_none}
use Rattle.tf_plan.proofs.Complete.{no_judged, beyond, drawn}
use Rattle.tf_plan.proofs.plan.plan_of_pieces.Goals as goal

pub returns-in-Some-clause-plan : goal.returns-in-Some-clause-plan
returns-in-Some-clause-plan g c =
    let fits = judged_none c.args.task.now c.in-Ok.schedule c.in_ok-misfit.field-0.misfit
    (sym c.is_some.ensures ∙ c.if-is_some.false) c.in_ok-misfit.ensures.fit in
    let cost = c.in-Some.ensures.drawn c.in-Ok.schedule c.in-Ok.ensures.schedule fits.known
    c.in_ok-misfit.ensures.jobs in
    record {
      fits = fits;
      cost =
          ap (λ (p : Problem). problem_cost_by p.goal c.args.task.now
          (drawing c.args.task.now.machines c.in-Ok.schedule)) (sym c.problem.ensures.value)
          ∙ sym cost ∙ sym (to_z-of_z w128 c.in-Some.value (search rules));
    }

pub returns-in-Some-clause-cost : goal.returns-in-Some-clause-cost
returns-in-Some-clause-cost g c = λ laid.
    let fits = judged_none c.args.task.now c.in-Ok.schedule c.in_ok-misfit.field-0.misfit
    (sym c.is_some.ensures ∙ c.if-is_some.false) c.in_ok-misfit.ensures.fit in
    let cost = c.in-Some.ensures.drawn c.in-Ok.schedule c.in-Ok.ensures.schedule fits.known
    c.in_ok-misfit.ensures.jobs in
    to_z-of_z w128 c.in-Some.value (search rules) ∙ cost
    ∙ ap (λ (p : Problem). problem_cost_by p.goal c.args.task.now
    (drawing c.args.task.now.machines c.in-Ok.schedule)) c.problem.ensures.value
    ∙ ap (λ (rows : Timetable). problem_cost c.args.task.now rows)
    (drawn c.args.task.now c.args.pieces.items c.in-Ok.schedule laid c.in-Ok.ensures.kept)

pub returns-then-is_some-clause-plan : goal.returns-then-is_some-clause-plan
returns-then-is_some-clause-plan g c = λ laid.
    absurd
    (no_judged c.args.task.now c.args.pieces.items c.in-Ok.schedule laid c.in-Ok.ensures.kept
    c.in_ok-misfit.field-0.misfit c.in_ok-misfit.ensures.fit
    (sym c.is_some.ensures ∙ c.if-is_some.true))

pub returns-in-None-clause-plan : goal.returns-in-None-clause-plan
returns-in-None-clause-plan g c = λ laid.
    let fits = judged_none c.args.task.now c.in-Ok.schedule c.in_ok-misfit.field-0.misfit
    (sym c.is_some.ensures ∙ c.if-is_some.false) c.in_ok-misfit.ensures.fit in
    beyond c.args.task.now c.args.pieces.items c.in-Ok.schedule laid c.in-Ok.ensures.kept
    c.problem.result.goal _ (ap (λ (p : Problem). p.goal) c.problem.ensures.value)
    (c.in-None.ensures.drawn c.in-Ok.schedule c.in-Ok.ensures.schedule fits.known
    c.in_ok-misfit.ensures.jobs)
