use Rattle.std.proofs.Common.{All}
use Rattle.tf_posed.specs.ProblemData.{IsProblemJob}
use Rattle.tf_search.proofs.sequence.best_order.Given as goal

abbrev pub invariant-loop-look : goal.invariant-loop-look
invariant-loop-look g l = All (IsProblemJob l.task) l.best.0.items
