use Rattle.tf_check.proofs.RatioRank.{AreRanked}
use Rattle.tf_check.proofs.ratio.ranks_of.Given as goal

abbrev pub invariant-loop-k : goal.invariant-loop-k
invariant-loop-k g l = AreRanked l.task l.scale l.k l.ranks.items
