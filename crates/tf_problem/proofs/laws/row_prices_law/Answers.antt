use Rattle.tf_problem.proofs.laws.row_prices_law.Goals as goal
use Rattle.tf_problem.proofs.RowPrices.{rows-bound}

pub returns : goal.returns
returns c = rows-bound
