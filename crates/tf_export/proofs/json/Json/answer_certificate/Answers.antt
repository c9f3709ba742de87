use Rattle.std.proofs.Common.{ℕ, List, [], ◌∷◌, OnOk, ap, sym, subst, ◌∙◌}
use Rattle.tf_words.specs.Words.{words}
use Rattle.tf_export.specs.Adds.{Adds}
use Rattle.tf_export.specs.Members.{certificate, answer_certificate}
use Rattle.tf_export.proofs.Adding.{nothing}
use Rattle.tf_export.proofs.json.Json.answer_certificate.Goals as goal

pub returns-in-None : goal.returns-in-None
returns-in-None c = nothing c.args.self.now _ (ap answer_certificate c.in-None.ensures.words)

pub returns-in-Some : goal.returns-in-Some
unfolding words
returns-in-Some c =
    let row = words c.in-Some.row.now in
    subst (λ items. OnOk c.certificate.result (Adds c.args.self.now c.certificate.new.self items))
    (ap (λ (list : List ℕ). certificate c.in-Some.kind.now list row [] ∷ []) c.answer_list.ensures
    ∙ sym (ap answer_certificate c.in-Some.ensures.words)) c.certificate.ensures
