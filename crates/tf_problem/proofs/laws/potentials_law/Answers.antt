use Rattle.tf_problem.proofs.laws.potentials_law.Goals as goal
use Rattle.tf_problem.proofs.Potentials.{potentials-bound}

pub returns : goal.returns
returns c = potentials-bound
