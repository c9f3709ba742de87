use Rattle.tf_problem.proofs.laws.window_law.Goals as goal
use Rattle.tf_problem.proofs.Windows.{window-bound}

pub returns : goal.returns
returns c = window-bound
