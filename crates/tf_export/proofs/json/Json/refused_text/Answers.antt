use Rattle.std.proofs.Common.{[], ◌∷◌, codes}
use Rattle.tf_export.specs.Json.{member, string}
use Rattle.tf_export.proofs.Adding.{both}
use Rattle.tf_export.proofs.json.Json.refused_text.Goals as goal

pub returns : goal.returns
returns c =
    both c.args.self.now c.string_member.new.self c.refusal.new.self
    (member (codes "text") (string c.args.name.now) ∷ []) _
    c.in_ok-string_member.ensures c.in_ok-refusal.ensures
