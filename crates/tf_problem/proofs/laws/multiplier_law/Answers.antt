use Rattle.tf_problem.proofs.laws.multiplier_law.Goals as goal
use Rattle.tf_problem.proofs.AnyMultipliers.{any_multipliers-bound}

pub returns : goal.returns
returns c = any_multipliers-bound
