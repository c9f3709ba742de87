use Rattle.std.proofs.Common.{IfSome}
use Rattle.tf_posed.specs.ProblemCost.{IsLowerBound}
use Rattle.tf_search.proofs.machine_search.search_machines.Given as goal

abbrev pub invariant-loop-machine : goal.invariant-loop-machine
invariant-loop-machine g l = IfSome l.best (λ found. IsLowerBound l.task found.value)
