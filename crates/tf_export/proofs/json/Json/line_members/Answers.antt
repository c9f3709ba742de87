use Rattle.std.proofs.Common.{OnOk, ap, sym, subst}
use Rattle.tf_words.specs.Words.{words}
use Rattle.tf_export.specs.Adds.{Adds}
use Rattle.tf_export.specs.Members.{line_members}
use Rattle.tf_export.proofs.Adding.{nothing}
use Rattle.tf_export.proofs.json.Json.line_members.Goals as goal

pub returns-in-None : goal.returns-in-None
unfolding line_members
returns-in-None c =
    nothing c.args.self.now _
    (ap (λ row. line_members row (words c.args.next.now)) c.in-None.ensures.words)

pub returns-in-Some : goal.returns-in-Some
unfolding line_members
returns-in-Some c =
    subst (λ items. OnOk c.keyed_members.result
    (Adds c.args.self.now c.keyed_members.new.self items))
    (sym (ap (λ row. line_members row (words c.args.next.now)) c.in-Some.ensures.words))
    c.keyed_members.ensures
