use Rattle.tf_problem.proofs.laws.kept_weight_law.Goals as goal
use Rattle.tf_problem.proofs.KeptWeight.{kept-weight-bound}

pub returns : goal.returns
returns c = kept-weight-bound
