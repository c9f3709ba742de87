use Rattle.std.proofs.Common.{All}
use Rattle.tf_posed.specs.ProblemData.{IsProblemJob}
use Rattle.tf_search.proofs.machine_search.jobs_on.Given as goal

abbrev pub invariant-loop-k : goal.invariant-loop-k
invariant-loop-k g l = All (IsProblemJob l.task) l.jobs.items
