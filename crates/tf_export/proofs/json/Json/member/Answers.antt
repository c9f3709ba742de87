use Rattle.tf_export.proofs.Adding.{named}
use Rattle.tf_export.proofs.json.Json.member.Goals as goal

pub returns : goal.returns
returns c =
    named _ _ c.args.name.now _ _ c.in_ok-name.ensures.text c.in_ok-extend_from_slice.ensures.items c.name.ensures.first
