use Rattle.std.proofs.Common.{[], ◌∷◌, codes, subst}
use Rattle.tf_export.specs.Adds.{Adds}
use Rattle.tf_export.specs.Json.{member, string}
use Rattle.tf_export.proofs.Adding.{both}
use Rattle.tf_export.proofs.json.Json.rated.Goals as goal

pub returns : goal.returns
returns c =
    both c.args.self.now c.string_member.new.self c.fields.new.self _ _
    (subst (λ standing. Adds c.args.self.now c.string_member.new.self
    (member (codes "standing") (string standing) ∷ [])) c.standing_of.ensures
    c.in_ok-string_member.ensures) c.in_ok-fields.ensures
