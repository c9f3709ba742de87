use Rattle.std.proofs.Common.{sym}
use Rattle.tf_schedule.proofs.Limited.{visited}
use Rattle.tf_schedule.proofs.asks.TaskAsks.visited.Goals as goal

pub returns : goal.returns
returns g c = sym (visited c.args.self.now c.args._job c.args.place c.requires.place)
