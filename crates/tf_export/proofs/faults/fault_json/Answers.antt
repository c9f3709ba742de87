use Rattle.std.proofs.Common.{[], ◌∷◌, ◌++◌, ap, sym, ◌∙◌}
use Rattle.std.proofs.lemmas.Bool.{eqb-true}
use Rattle.tf_export.specs.Json.{heading}
use Rattle.tf_export.specs.Faults.{fault_members}
use Rattle.tf_export.proofs.Adding.{both, whole}
use Rattle.tf_export.proofs.Saying.{unsaid, is_said}
use Rattle.tf_export.proofs.faults.fault_json.Goals as goal

pub returns-then-is_empty : goal.returns-then-is_empty
returns-then-is_empty c =
    ap (λ v. v.items) c.into_text.ensures
    ∙ c.new-json.ensures.text
    ∙ sym (unsaid c.args.instance c.args.text.now (eqb-true _ _ (sym c.is_empty.ensures ∙ c.if-is_empty.true)))

pub returns : goal.returns
returns c =
    ap (λ v. v.items) c.into_text-2.ensures
    ∙ whole c.enter.new.self c.fault_members.new.self _
    (heading c.args.instance ++ fault_members c.args.text.now)
    (c.in_ok-enter.ensures.text ∙ ap (λ text. text ++ 123 ∷ []) c.new-json.ensures.text)
    c.enter.ensures.first
    (both c.enter.new.self c.heading.new.self c.fault_members.new.self (heading c.args.instance) _
    c.in_ok-heading.ensures c.in_ok-fault_members.ensures) c.in_ok-push.ensures
    ∙ sym (is_said c.args.instance c.args.text.now (sym c.is_empty.ensures ∙ c.if-is_empty.false))
