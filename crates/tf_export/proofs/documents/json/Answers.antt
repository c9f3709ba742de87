use Rattle.std.proofs.Common.{[], ◌∷◌, ◌++◌, ap, ◌∙◌}
use Rattle.tf_export.specs.Json.{heading}
use Rattle.tf_export.specs.Documents.{document_members, json_of}
use Rattle.tf_export.proofs.Adding.{both, whole}
use Rattle.tf_export.proofs.documents.json.Goals as goal

pub returns : goal.returns
unfolding json_of
returns c =
    ap (λ v. v.items) c.into_text.ensures
    ∙ whole c.enter.new.self c.document_members.new.self _
    (heading c.args.instance ++ document_members c.args.document c.args.text.now)
    (c.in_ok-enter.ensures.text ∙ ap (λ text. text ++ 123 ∷ []) c.new-json.ensures.text)
    c.enter.ensures.first
    (both c.enter.new.self c.heading.new.self c.document_members.new.self (heading c.args.instance) _
    c.in_ok-heading.ensures c.in_ok-document_members.ensures) c.in_ok-push.ensures
