use Rattle.tf_problem.proofs.laws.rank_best_law.Goals as goal
use Rattle.tf_problem.proofs.RankBest.{rank-best}

pub returns : goal.returns
returns c = rank-best
