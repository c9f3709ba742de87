use Rattle.tf_export.proofs.Adding.{named}
use Rattle.tf_export.proofs.json.Json.phrase_member.Goals as goal

pub returns : goal.returns
returns c =
    named _ _ c.args.name.now _ _ c.in_ok-name.ensures.text c.in_ok-push_phrase.ensures c.name.ensures.first
