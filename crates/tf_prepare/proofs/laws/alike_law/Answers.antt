use Rattle.tf_prepare.proofs.laws.alike_law.Goals as goal
use Rattle.tf_prepare.proofs.Alike.{alike}

pub returns : goal.returns
returns c = alike
