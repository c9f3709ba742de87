use Rattle.tf_check.proofs.RatioOrder.{AreFirst}
use Rattle.tf_check.proofs.ratio.weighted_jobs.Given as goal

abbrev pub invariant-loop-k : goal.invariant-loop-k
invariant-loop-k g l = AreFirst l.task l.k l.jobs.items
