use Rattle.tf_problem.proofs.laws.crowd_law.Goals as goal
use Rattle.tf_problem.proofs.Crowds.{crowd-bound}

pub returns : goal.returns
returns c = crowd-bound
