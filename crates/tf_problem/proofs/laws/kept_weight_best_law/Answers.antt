use Rattle.tf_problem.proofs.laws.kept_weight_best_law.Goals as goal
use Rattle.tf_problem.proofs.KeptWeightBest.{kept-weight-best}

pub returns : goal.returns
returns c = kept-weight-best
