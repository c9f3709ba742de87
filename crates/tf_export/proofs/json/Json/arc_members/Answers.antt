use Rattle.std.proofs.Common.{OnOk, sym, subst, ◌∙◌}
use Rattle.tf_words.specs.Words.{words}
use Rattle.tf_export.specs.Adds.{Adds}
use Rattle.tf_export.proofs.Saying.{no_arcs, arcs_none, arcs_some}
use Rattle.tf_export.proofs.Adding.{nothing}
use Rattle.tf_export.proofs.json.Json.arc_members.Goals as goal

pub returns-then-not-is : goal.returns-then-not-is
returns-then-not-is c =
    nothing c.args.self.now _
    (no_arcs c.args.kind.now (words c.args.next.now) (sym c.is.ensures ∙ c.if-not-is.true))

pub returns-in-None : goal.returns-in-None
returns-in-None c =
    nothing c.args.self.now _
    (arcs_none c.args.kind.now (words c.args.next.now) (sym c.is.ensures ∙ c.if-not-is.false)
    c.in-None.ensures)

pub returns-in-Some : goal.returns-in-Some
returns-in-Some c =
    subst (λ items. OnOk c.scalars_member.result (Adds c.args.self.now c.scalars_member.new.self items))
    (arcs_some c.args.kind.now (words c.args.next.now) (words c.in-Some.row.now)
    (sym c.is.ensures ∙ c.if-not-is.false) c.in-Some.ensures.0 c.in-Some.ensures.1) c.scalars_member.ensures
