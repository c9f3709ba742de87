use Rattle.tf_posed.proofs.laws.posed_law.Goals as goal
use Rattle.tf_posed.proofs.Agreement.{posed-same}

pub returns : goal.returns
returns c = posed-same
