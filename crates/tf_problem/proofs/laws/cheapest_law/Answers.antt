use Rattle.tf_problem.proofs.laws.cheapest_law.Goals as goal
use Rattle.tf_problem.proofs.Prices.{cheapest-up_to_last, some-start}

pub returns : goal.returns
returns c k = record { up_to_last = cheapest-up_to_last k; some_start = some-start k }
