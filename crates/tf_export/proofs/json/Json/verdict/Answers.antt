use Rattle.tf_export.proofs.Adding.{both}
use Rattle.tf_export.proofs.json.Json.verdict.Goals as goal

pub returns : goal.returns
returns c =
    both _ c.member.new.self _ _ _ c.in_ok-member.ensures c.in_ok-fields.ensures
