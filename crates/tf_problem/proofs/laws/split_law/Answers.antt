use Rattle.tf_problem.proofs.laws.split_law.Goals as goal
use Rattle.tf_problem.proofs.Split.{split-bound}

pub returns : goal.returns
returns c = split-bound
