use Rattle.std.proofs.Common.{◌≡◌, ◌+◌, ◌-◌, ◌≤◌, ◌∷◌, ◌++◌, [], None, Some, ap, append_assoc, arith, drop, length, subst, sym, take, ◌∙◌}
use Rattle.std.specs.List.{position}
use Rattle.std.proofs.lemmas.List.{length-drop, take_all}
use Rattle.tf_orders.specs.OrderText.{IsGradedOrder, is_colon, spaced}
use Rattle.tf_orders.proofs.Graded.{graded_labelled, graded_plain}
use Rattle.tf_orders.proofs.grading.push_graded.Goals as goal

pub returns : goal.returns
returns g c =
    let text = c.args.text.now in
    let place = c.in-Some.place in
    let out = c.args.out.now.items in
    let label = take (place + 1) text in
    let (row, graded, written) = c.in_ok-push_order-2.ensures in
    let some : position is_colon text ≡ Some place = sym c.colon_in.ensures ∙ c.in-Some.is in
    let rest : take (length text - (place + 1)) (drop (place + 1) text) ≡ drop (place + 1) text =
    take_all _ _ (omega (arith, length-drop (place + 1) text)) in (
      (label ++ 32 ∷ []) ++ row,
      graded_labelled c.args.measure.now text row place some
          (subst (λ t. IsGradedOrder c.args.measure.now (spaced t) row) rest graded),
      written
          ∙ ap (λ o. o ++ row)
          (c.in_ok-push.ensures.items ∙ ap (λ o. o ++ 32 ∷ []) c.in_ok-extend_from_slice.ensures.items
          ∙ append_assoc out label (32 ∷ []))
          ∙ append_assoc out (label ++ 32 ∷ []) row,
    )

-- without a colon
pub returns-in_default : goal.returns-in_default
returns-in_default g c =
    let text = c.args.text.now in
    let (row, graded, written) = c.in_ok-push_order.ensures in
    let none : position is_colon text ≡ None = sym c.colon_in.ensures ∙ c.in_default.is in
    (row, graded_plain c.args.measure.now text row none graded, written)
