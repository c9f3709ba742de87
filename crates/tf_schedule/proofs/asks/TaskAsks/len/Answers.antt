use Rattle.std.proofs.Common.{sym, ◌∙◌}
use Rattle.tf_posed.proofs.Conditions.{size}
use Rattle.tf_schedule.proofs.Limited.{limited}
use Rattle.tf_schedule.proofs.asks.TaskAsks.len.Goals as goal

pub returns-clause-value : goal.returns-clause-value
returns-clause-value g c = c.len.ensures.value ∙ sym (size c.args.self.now)

pub returns-clause-limited : goal.returns-clause-limited
returns-clause-limited g c = limited c.args.self.now c.len.ensures.sound
