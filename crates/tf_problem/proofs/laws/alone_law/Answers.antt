use Rattle.tf_problem.proofs.laws.alone_law.Goals as goal
use Rattle.tf_problem.proofs.Alone.{alone-bound}

pub returns : goal.returns
returns c = alone-bound
