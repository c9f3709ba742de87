use Rattle.tf_problem.proofs.laws.flow_agreement_law.Goals as goal
use Rattle.tf_problem.proofs.FlowAgreement.{flow-agrees}

pub returns : goal.returns
returns c = flow-agrees
