use Rattle.std.proofs.Common.{sym, ap, ◌∙◌, true, false}
use Rattle.tf_model.specs.ClassTable.{is_flow}
use Rattle.tf_schedule.proofs.Limited.{visits}
use Rattle.tf_schedule.proofs.asks.TaskAsks.visits.Goals as goal

pub returns-then-is_flow : goal.returns-then-is_flow
returns-then-is_flow g c =
    c.machines.ensures.value
    ∙ sym (visits c.args.self.now c.args._job true
    (ap is_flow (sym c.class.ensures.class) ∙ sym c.is_flow.ensures ∙ c.if-is_flow.true))

pub returns-else-is_flow : goal.returns-else-is_flow
returns-else-is_flow g c =
    sym (visits c.args.self.now c.args._job false
    (ap is_flow (sym c.class.ensures.class) ∙ sym c.is_flow.ensures ∙ c.if-is_flow.false))
