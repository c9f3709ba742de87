use Rattle.std.proofs.Common.{◌≡◌, ◌+◌, ◌-◌, take, drop, length, OnOk, sym, subst, ◌∙◌, arith}
use Rattle.std.proofs.lemmas.List.{length-drop, take_all}
use Rattle.tf_words.specs.Words.{words}
use Rattle.tf_export.specs.Adds.{Adds}
use Rattle.tf_export.specs.Orders.{labelled, order_members_by}
use Rattle.tf_export.proofs.json.Json.order_members.Goals as goal

pub returns-in-None : goal.returns-in-None
returns-in-None c =
    subst (λ place. OnOk c.unlabelled.result
    (Adds c.args.self.now c.unlabelled.new.self (order_members_by place c.args.line.now)))
    (sym c.in-None.is ∙ c.colon_in.ensures) c.unlabelled.ensures

pub returns-in-Some : goal.returns-in-Some
returns-in-Some c =
    let line = c.args.line.now in
    let place = c.in-Some.place in
    let rest : take (length line - (place + 1)) (drop (place + 1) line) ≡ drop (place + 1) line =
    take_all _ _ (omega (arith, length-drop (place + 1) line)) in
    subst (λ found. OnOk c.labelled.result
    (Adds c.args.self.now c.labelled.new.self (order_members_by found line)))
    (sym c.in-Some.is ∙ c.colon_in.ensures)
    (subst (λ row. OnOk c.labelled.result (Adds c.args.self.now c.labelled.new.self
    (labelled (words (take place line)) (words row)))) rest c.labelled.ensures)
