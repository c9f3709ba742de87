use Rattle.std.proofs.Common.{IfSome}
use Rattle.tf_search.specs.Strongest.{IsFoundOn}
use Rattle.tf_search.proofs.strongest.by_arcs.Given as goal

abbrev pub invariant-loop-machine : goal.invariant-loop-machine
invariant-loop-machine g l = IfSome l.best (IsFoundOn l.task)
