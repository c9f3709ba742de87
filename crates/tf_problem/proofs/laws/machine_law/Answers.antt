use Rattle.tf_problem.proofs.laws.machine_law.Goals as goal
use Rattle.tf_problem.proofs.OneMachine.{machine-bound}

pub returns : goal.returns
returns c = machine-bound
