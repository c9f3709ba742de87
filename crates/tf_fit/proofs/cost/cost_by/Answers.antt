use Rattle.std.proofs.Common.{ℤ, subst}
use Rattle.tf_fit.specs.CostBy.{IsCostOrBeyond}
use Rattle.tf_fit.proofs.Costs.{drawn_cost}
use Rattle.tf_fit.proofs.cost.cost_by.Goals as goal

pub returns-clause-drawn : goal.returns-clause-drawn
returns-clause-drawn g c = λ ps schedule known has.
    subst (λ (z : ℤ). IsCostOrBeyond c.cost_of_stops.result z)
    (drawn_cost c.args.task.now ps schedule known c.args.jobs.now has c.args.goal)
    c.cost_of_stops.ensures
