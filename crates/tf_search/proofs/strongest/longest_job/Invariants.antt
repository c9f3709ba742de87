use Rattle.tf_posed.specs.ProblemData.{IsProblemJob}
use Rattle.tf_search.proofs.strongest.longest_job.Given as goal

abbrev pub invariant-loop-k : goal.invariant-loop-k
invariant-loop-k g l = IsProblemJob l.task l.longest
