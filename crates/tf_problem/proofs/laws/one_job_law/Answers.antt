use Rattle.tf_problem.proofs.laws.one_job_law.Goals as goal
use Rattle.tf_problem.proofs.Windows.{one_job-bound}

pub returns : goal.returns
returns c = one_job-bound
