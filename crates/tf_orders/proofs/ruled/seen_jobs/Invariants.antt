use Rattle.tf_orders.specs.Ruled.{AreFirstSeen}
use Rattle.tf_orders.proofs.ruled.seen_jobs.Given as goal

abbrev pub invariant-loop-k : goal.invariant-loop-k
invariant-loop-k g l = AreFirstSeen (g.T.Asks.posed l.task) l.k l.jobs.items
