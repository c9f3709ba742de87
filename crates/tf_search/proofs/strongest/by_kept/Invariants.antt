use Rattle.std.proofs.Common.{IfSome}
use Rattle.tf_search.specs.Strongest.{IsFoundOn}
use Rattle.tf_search.proofs.strongest.by_kept.Given as goal

abbrev pub invariant-loop-date : goal.invariant-loop-date
invariant-loop-date g l = IfSome l.best (IsFoundOn l.task)
