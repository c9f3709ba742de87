use Rattle.tf_problem.proofs.laws.prices_law.Goals as goal
use Rattle.tf_problem.proofs.Prices.{prices-bound}

pub returns : goal.returns
returns c = prices-bound
