use Rattle.tf_schedule.proofs.Limited.{limited}
use Rattle.tf_schedule.proofs.asks.TaskAsks.machines.Goals as goal

pub returns-clause-limited : goal.returns-clause-limited
returns-clause-limited g c = limited c.args.self.now c.machines.ensures.sound
