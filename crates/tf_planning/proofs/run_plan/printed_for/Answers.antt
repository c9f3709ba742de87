use Rattle.std.proofs.Common.{rules, ◌≡◌, ℤ, SFits, subst, sym, ◌∙◌}
use Rattle.std.specs.Int.{w128}
use Rattle.std.proofs.lemmas.Int.{to_z-of_z}
use Rattle.tf_posed.specs.ProblemCost.{IsProblemBest}
use Rattle.tf_schedule.specs.Drawing.{drawing}
use Rattle.tf_plan.specs.Plan.{IsPlan}
use Rattle.tf_planning.specs.PlanText.{standing_of}
use Rattle.tf_planning.proofs.Texts.{plan_written}
use Rattle.tf_planning.proofs.run_plan.printed_for.Goals as goal

pub returns : goal.returns
returns g c =
    let k = c.args.task.now in
    let made = c.in_ok-made.made in
    let fits : SFits w128 made.plan.value = search rules in
    let same = to_z-of_z w128 made.plan.value fits in
    record {
      pieces = made.plan.schedule;
      value = made.plan.value;
      found = made.found;
      plan = c.in_ok-made.ensures.plan;
      bound = c.in_ok-made.ensures.found;
      written = plan_written _ k _ _ _ _ made.found _ _ _ c.in_ok-sheet.ensures
          (c.deref.ensures.value ∙ c.in_ok-remarks.ensures) same c.in_ok-text.ensures;
      standing = subst (λ (v : ℤ). c.standing_of-planned.result ≡ standing_of v made.found) same
          c.standing_of-planned.ensures.is;
      best = λ is. subst (λ (v : ℤ). IsProblemBest k (drawing k.machines made.plan.schedule) v) same
          (c.standing_of-planned.ensures.best k made.plan.schedule
          (subst (IsPlan k made.plan.schedule) (sym same) c.in_ok-made.ensures.plan)
          c.in_ok-made.ensures.found is);
    }
