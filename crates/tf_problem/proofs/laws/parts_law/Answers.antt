use Rattle.tf_problem.proofs.laws.parts_law.Goals as goal
use Rattle.tf_problem.proofs.Parts.{parts-bound}

pub returns : goal.returns
returns c = parts-bound
