use Rattle.std.proofs.Common.{OnOk, subst}
use Rattle.tf_words.specs.Words.{words}
use Rattle.tf_export.specs.Adds.{Adds}
use Rattle.tf_export.proofs.Adding.{nothing}
use Rattle.tf_export.proofs.Planning.{certified, not_certified}
use Rattle.tf_export.proofs.json.Json.uncertified.Goals as goal

pub returns-in-None : goal.returns-in-None
returns-in-None c =
    subst (λ items. OnOk c.line_members.result (Adds c.args.self.now c.line_members.new.self items))
    (not_certified (words c.args.line.now) (words c.args.next.now) c.in-None.ensures)
    c.line_members.ensures

pub returns-in-Some : goal.returns-in-Some
returns-in-Some c =
    nothing c.args.self.now _
    (certified (words c.args.line.now) (words c.args.next.now) c.in-Some.ensures.0)
