use Rattle.std.proofs.Common.{OnOk, sym, subst}
use Rattle.tf_words.specs.Words.{words}
use Rattle.tf_export.specs.Adds.{Adds}
use Rattle.tf_export.proofs.Adding.{nothing}
use Rattle.tf_export.proofs.Listing.{marked, unmarked}
use Rattle.tf_export.proofs.json.Json.mark_in.Goals as goal

pub returns-in-None : goal.returns-in-None
returns-in-None c = nothing c.args.self.now _ (unmarked (words c.args.line.now) c.in-None.ensures)

pub returns-in-Some : goal.returns-in-Some
returns-in-Some c =
    subst (λ items. OnOk c.named_value.result (Adds c.args.self.now c.named_value.new.self items))
    (sym (marked (words c.args.line.now) (words c.in-Some.row.now) c.in-Some.ensures.0
    c.in-Some.ensures.1)) c.named_value.ensures
