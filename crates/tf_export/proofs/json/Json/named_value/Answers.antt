use Rattle.std.proofs.Common.{OnOk, sym, subst}
use Rattle.tf_words.specs.Words.{words}
use Rattle.tf_export.specs.Adds.{Adds}
use Rattle.tf_export.proofs.Adding.{nothing}
use Rattle.tf_export.proofs.Listing.{value_bare, value_missing, value_whole}
use Rattle.tf_export.proofs.json.Json.named_value.Goals as goal

pub returns-in_default : goal.returns-in_default
returns-in_default c =
    nothing c.args.self.now _ (value_missing (words c.args.row.now) c.in_default.ensures.words)

pub returns-in_default-first_word : goal.returns-in_default-first_word
returns-in_default-first_word c =
    nothing c.args.self.now _
    (value_bare (words c.args.row.now) _ _ c.in-Some.ensures.words
    c.in_default-first_word.ensures.words)

pub returns : goal.returns
returns c =
    subst (λ items. OnOk c.member.result (Adds c.args.self.now c.member.new.self items))
    (sym (value_whole (words c.args.row.now) _ _ _ _ c.in-Some.ensures.words
    c.in-Some-first_word.ensures.words)) c.member.ensures
