use Rattle.std.proofs.Common.{[], ◌∷◌, codes}
use Rattle.tf_export.specs.Json.{member, string}
use Rattle.tf_export.proofs.Adding.{both}
use Rattle.tf_export.proofs.json.Json.unrated.Goals as goal

pub returns : goal.returns
returns c =
    both c.args.self.now c.string_member.new.self c.fields.new.self
    (member (codes "standing") (string c.args.standing.now) ∷ []) _ c.in_ok-string_member.ensures
    (both c.string_member.new.self c.member.new.self c.fields.new.self
    (member (codes "value") (codes "null") ∷ []) _ c.in_ok-member.ensures
    (both c.member.new.self c.member-2.new.self c.fields.new.self
    (member (codes "gap") (codes "null") ∷ []) _ c.in_ok-member-2.ensures c.in_ok-fields.ensures))
