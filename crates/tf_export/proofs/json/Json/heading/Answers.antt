use Rattle.std.proofs.Common.{List, ℕ, [], ◌∷◌, codes, ◌∙◌, subst}
use Rattle.tf_export.specs.Json.{member, version}
use Rattle.tf_export.specs.Adds.{Adds}
use Rattle.tf_export.proofs.Adding.{both}
use Rattle.tf_export.proofs.json.Json.heading.Goals as goal

pub returns : goal.returns
returns c =
    let shown = c.as_bytes.ensures.value ∙ c.format.ensures.text in
    rw c.in-Some.is
    (both c.args.self.now c.member.new.self c.member-2.new.self (version ∷ []) _
    c.in_ok-member.ensures
    (subst (λ (digits : List ℕ). Adds c.member.new.self c.member-2.new.self
    (member (codes "instance") digits ∷ [])) shown c.in_ok-member-2.ensures))
