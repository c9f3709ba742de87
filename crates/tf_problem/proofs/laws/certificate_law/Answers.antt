use Rattle.tf_problem.proofs.laws.certificate_law.Goals as goal
use Rattle.tf_problem.proofs.Relaxing.{bound-of_relaxation}

pub returns : goal.returns
returns c = bound-of_relaxation
