use Rattle.tf_problem.proofs.laws.best_law.Goals as goal
use Rattle.tf_problem.proofs.Relaxing.{best-of_relaxation}

pub returns : goal.returns
returns c = best-of_relaxation
