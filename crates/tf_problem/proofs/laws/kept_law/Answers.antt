use Rattle.tf_problem.proofs.laws.kept_law.Goals as goal
use Rattle.tf_problem.proofs.Kept.{kept-bound}

pub returns : goal.returns
returns c = kept-bound
