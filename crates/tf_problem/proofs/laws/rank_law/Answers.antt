use Rattle.tf_problem.proofs.laws.rank_law.Goals as goal
use Rattle.tf_problem.proofs.Ranks.{rank-bound}

pub returns : goal.returns
returns c = rank-bound
