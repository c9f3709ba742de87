use Rattle.std.proofs.Common.{OnOk, [], ◌∷◌, codes, sym, subst}
use Rattle.tf_export.specs.Adds.{Adds}
use Rattle.tf_export.specs.Documents.{document_members, parts_array}
use Rattle.tf_export.specs.declared.documents.Part.TheVariants.{Problem, Known}
use Rattle.tf_export.proofs.json.Json.document_members.Goals as goal

pub returns-in-Answer : goal.returns-in-Answer
unfolding document_members
returns-in-Answer c =
    subst (λ document. OnOk c.answer_members.result
    (Adds c.args.self.now c.answer_members.new.self (document_members document c.args.text.now)))
    (sym c.in-Answer.is) c.answer_members.ensures

pub returns-in-Bound : goal.returns-in-Bound
unfolding document_members
returns-in-Bound c =
    subst (λ document. OnOk c.members_behind.result
    (Adds c.args.self.now c.members_behind.new.self (document_members document c.args.text.now)))
    (sym c.in-Bound.is) c.members_behind.ensures

pub returns-in-Evaluation : goal.returns-in-Evaluation
unfolding document_members
returns-in-Evaluation c =
    subst (λ document. OnOk c.evaluation_members.result
    (Adds c.args.self.now c.evaluation_members.new.self (document_members document c.args.text.now)))
    (sym c.in-Evaluation.is) c.evaluation_members.ensures

pub returns-in-Verdict : goal.returns-in-Verdict
unfolding document_members
returns-in-Verdict c =
    subst (λ document. OnOk c.parts.result
    (Adds c.args.self.now c.parts.new.self (document_members document c.args.text.now)))
    (sym c.in-Verdict.is) c.parts.ensures

pub returns-in-Problems : goal.returns-in-Problems
unfolding document_members
returns-in-Problems c =
    subst (λ document. OnOk c.parts_array.result
    (Adds c.args.self.now c.parts_array.new.self (document_members document c.args.text.now)))
    (sym c.in-Problems.is)
    (subst (λ all. OnOk c.parts_array.result (Adds c.args.self.now c.parts_array.new.self
    (parts_array (codes "problems") Problem all ∷ []))) c.behind_heading.ensures
    c.parts_array.ensures)

pub returns-in-Plan : goal.returns-in-Plan
unfolding document_members
returns-in-Plan c =
    subst (λ document. OnOk c.plan_members.result
    (Adds c.args.self.now c.plan_members.new.self (document_members document c.args.text.now)))
    (sym c.in-Plan.is) c.plan_members.ensures

pub returns-in-Border : goal.returns-in-Border
unfolding document_members
returns-in-Border c =
    subst (λ document. OnOk c.parts_array-in-Border.result
    (Adds c.args.self.now c.parts_array-in-Border.new.self (document_members document c.args.text.now)))
    (sym c.in-Border.is)
    (subst (λ all. OnOk c.parts_array-in-Border.result (Adds c.args.self.now c.parts_array-in-Border.new.self
    (parts_array (codes "problems") Known all ∷ []))) c.behind_heading-in-Border.ensures
    c.parts_array-in-Border.ensures)

pub returns-in-Orders : goal.returns-in-Orders
unfolding document_members
returns-in-Orders c =
    subst (λ document. OnOk c.orders_members.result
    (Adds c.args.self.now c.orders_members.new.self (document_members document c.args.text.now)))
    (sym c.in-Orders.is) c.orders_members.ensures
