use Rattle.std.proofs.Common.{[], ◌∷◌, codes, subst}
use Rattle.tf_words.specs.Words.{words}
use Rattle.tf_export.specs.Adds.{Adds}
use Rattle.tf_export.specs.Json.{member}
use Rattle.tf_export.specs.Members.{said}
use Rattle.tf_export.proofs.Adding.{both, nothing}
use Rattle.tf_export.proofs.Planning.{no_optimum, an_optimum}
use Rattle.tf_export.proofs.json.Json.optimum.Goals as goal

pub returns-in_default : goal.returns-in_default
returns-in_default c =
    nothing c.args.self.now _ (no_optimum (words c.args.line.now) c.in_default.ensures)

pub returns : goal.returns
returns c =
    subst (Adds c.args.self.now c.said_member.new.self)
    (an_optimum (words c.args.line.now) (words c.in-Some.row.now) c.in-Some.ensures.0
    c.in-Some.ensures.1)
    (both c.args.self.now c.member.new.self c.said_member.new.self
    (member (codes "gap") (codes "0") ∷ [])
    (member (codes "bound") (said (words c.in-Some.row.now)) ∷ []) c.in_ok-member.ensures
    c.in_ok-said_member.ensures)
