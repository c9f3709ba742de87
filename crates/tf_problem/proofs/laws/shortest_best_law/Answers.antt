use Rattle.tf_problem.proofs.laws.shortest_best_law.Goals as goal
use Rattle.tf_problem.proofs.ShortestBest.{shortest-best}

pub returns : goal.returns
returns c = shortest-best
