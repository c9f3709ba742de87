use Rattle.tf_problem.proofs.laws.shortest_law.Goals as goal
use Rattle.tf_problem.proofs.Shortest.{shortest-bound}

pub returns : goal.returns
returns c = shortest-bound
