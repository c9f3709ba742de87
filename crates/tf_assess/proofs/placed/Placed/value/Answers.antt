use Rattle.std.proofs.Common.{subst}
use Rattle.tf_assess.specs.Placed.{HasTable}
use Rattle.tf_assess.proofs.Placing.{measure, no_measure}
use Rattle.tf_assess.proofs.placed.Placed.value.Goals as goal

pub returns-in-Some : goal.returns-in-Some
returns-in-Some g c = λ posed ps placed served.
    let k = c.args.self.now.task in
    measure posed ps c.args.self.now.goal c.args.goal k placed.meant served c.in-Some.jobs
    (subst (HasTable k ps) c.in-Some.is placed.judged) c.cost_by.result c.cost_by.ensures.drawn

pub returns-in-None : goal.returns-in-None
returns-in-None g c = λ posed ps placed served.
    let k = c.args.self.now.task in
    no_measure posed ps c.args.self.now.goal c.args.goal k placed.meant served
    (subst (HasTable k ps) c.in-None.is placed.judged)
