use Rattle.tf_problem.proofs.laws.machine_prices_law.Goals as goal
use Rattle.tf_problem.proofs.MachinePrices.{machine_prices-bound}

pub returns : goal.returns
returns c = machine_prices-bound
