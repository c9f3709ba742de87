use Rattle.tf_problem.proofs.laws.kept_best_law.Goals as goal
use Rattle.tf_problem.proofs.KeptBest.{kept-best}

pub returns : goal.returns
returns c = kept-best
