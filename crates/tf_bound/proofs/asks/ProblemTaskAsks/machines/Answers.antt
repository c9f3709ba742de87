use Rattle.tf_bound.proofs.Limited.{limited}
use Rattle.tf_bound.proofs.asks.ProblemTaskAsks.machines.Goals as goal

pub returns-clause-limited : goal.returns-clause-limited
returns-clause-limited g c = limited c.args.self.now c.machines.ensures.sized
