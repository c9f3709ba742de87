use Rattle.tf_problem.proofs.laws.pushed_law.Goals as goal
use Rattle.tf_problem.proofs.PushedBounds.{pushed-bound}

pub returns : goal.returns
returns c = pushed-bound
