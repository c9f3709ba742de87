use Rattle.std.proofs.Common.{ap, sym, ◌∙◌}
use Rattle.tf_words.specs.Words.{words}
use Rattle.tf_export.specs.Plan.{bound_members}
use Rattle.tf_export.proofs.Adding.{nothing}
use Rattle.tf_export.proofs.Planning.{unbound}
use Rattle.tf_export.proofs.json.Json.bound_members.Goals as goal

pub returns-in_default : goal.returns-in_default
returns-in_default c =
    nothing c.args.self.now _
    (ap (λ row. bound_members row (words c.args.next.now)) c.in_default.ensures.words)

pub returns : goal.returns
returns c =
    nothing c.args.self.now _
    (unbound (words c.args.line.now) (words c.args.next.now) c.in-Some.key.now
    (words c.in-Some.row.now) c.in-Some.ensures.words (sym c.is.ensures ∙ c.if-is.false)
    (sym c.is_bound_kind.ensures ∙ c.if-is_bound_kind.false))
