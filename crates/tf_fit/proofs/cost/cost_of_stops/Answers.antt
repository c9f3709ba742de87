use Rattle.std.proofs.Common.{rules, ℤ, subst, sym, ◌∙◌}
use mir.Val.{SFits}
use mir.Syntax.{w128}
use Rattle.std.proofs.lemmas.Int.{to_z-of_z}
use Rattle.tf_schedule.specs.Lanes.{stop_in}
use Rattle.tf_fit.specs.CostBy.{IsCostOrBeyond}
use Rattle.tf_fit.proofs.Costs.{max_cost, sum_cost}
use Rattle.tf_fit.proofs.cost.cost_of_stops.Goals as goal

pub returns-then-is_max : goal.returns-then-is_max
returns-then-is_max g c =
    let fits : SFits w128 c.greatest.result = search rules in
    to_z-of_z w128 c.greatest.result fits ∙ c.greatest.ensures
    ∙ max_cost c.args.goal c.args.task.now (stop_in c.args.jobs.now)
    (sym c.is_max.ensures ∙ c.if-is_max.true)

pub returns-else-is_max : goal.returns-else-is_max
returns-else-is_max g c =
    subst (λ (z : ℤ). IsCostOrBeyond c.total.result z)
    (sum_cost c.args.goal c.args.task.now (stop_in c.args.jobs.now)
    (sym c.is_max.ensures ∙ c.if-is_max.false)) c.total.ensures
