use Rattle.tf_model.specs.Feasible.{EachJob}
use Rattle.tf_schedule.specs.Condition.{IsMet}
use Rattle.tf_schedule.proofs.condition.first_unmet.Given as goal

abbrev pub invariant-loop-k : goal.invariant-loop-k
invariant-loop-k g l =
    EachJob l.k (IsMet l.condition (g.T.Asks.posed l.task) l.jobs l.operations)
