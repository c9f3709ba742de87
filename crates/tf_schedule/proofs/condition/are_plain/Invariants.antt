use Rattle.tf_model.specs.Feasible.{EachJob}
use Rattle.tf_schedule.specs.Condition.{IsPlainMet}
use Rattle.tf_schedule.proofs.condition.are_plain.Given as goal

abbrev pub invariant-loop-k : goal.invariant-loop-k
invariant-loop-k g l = EachJob l.k (IsPlainMet (g.T.Asks.posed l.task) l.jobs l.operations)
