use Rattle.tf_export.proofs.Adding.{one}
use Rattle.tf_export.proofs.json.Json.scalar.Goals as goal

pub returns : goal.returns
returns c = one _ _ _ _ c.in_ok-begin.ensures.text c.in_ok-push_scalar.ensures c.begin.ensures.first
