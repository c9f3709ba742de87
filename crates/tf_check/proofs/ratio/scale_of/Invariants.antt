use Rattle.tf_check.proofs.RatioRank.{AreGreatest}
use Rattle.tf_check.proofs.ratio.scale_of.Given as goal

abbrev pub invariant-loop-k : goal.invariant-loop-k
invariant-loop-k g l = AreGreatest l.task l.k l.weight l.time
