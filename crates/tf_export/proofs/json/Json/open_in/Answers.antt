use Rattle.std.proofs.Common.{OnOk, subst}
use Rattle.tf_words.specs.Words.{words}
use Rattle.tf_export.specs.Adds.{Adds}
use Rattle.tf_export.proofs.Planning.{open_gap}
use Rattle.tf_export.proofs.json.Json.open_in.Goals as goal

pub returns-in-Some : goal.returns-in-Some
unfolding words
returns-in-Some c =
    subst (λ items. OnOk c.line_members.result (Adds c.args.self.now c.line_members.new.self items))
    (open_gap (words c.args.line.now) (words c.args.next.now) (words c.in-Some.row.now)
    c.in-Some.ensures.0 c.in-Some.ensures.1) c.line_members.ensures
