use Rattle.std.proofs.Common.{◌≡◌, ℕ, ℤ, List, ◌++◌, Result, Ok, Err, OnOk, rules, refl, ap, subst, ◌∙◌, SFits, w64, to_z, of_z}
use Rattle.std.specs.Int.{w128}
use Rattle.std.proofs.lemmas.Int.{to_z-of_z}
use Rattle.tf_text.specs.AnswerText.{line_text}
use Rattle.tf_assess.specs.Measures.{AreMeasuredBy}
use Rattle.tf_orders.specs.OrderText.{row_words}
use Rattle.tf_orders.proofs.rating.push_rated.Goals as goal

on_ok : {E : Type 0} (r : Result (Unit {0}) E) (P Q : Type 0) → (P → Q) → OnOk r P → OnOk r Q
on_ok (Ok u) P Q f p = f p
on_ok (Err e) P Q f p = tt

pub returns-in_ok-fit-in-Optimum : goal.returns-in_ok-fit-in-Optimum
returns-in_ok-fit-in-Optimum g c =
    let fits : SFits w64 c.in-Optimum.best = search rules in
    let wide : SFits w128 c.from.result = search rules in
    let fit = c.in_ok-fit-in-Optimum.fit in
    let measures = c.in_ok-measures-in-Optimum.measures in
    let least : to_z w128 (of_z w128 c.from.result) ≡ c.in-Optimum.best =
    to_z-of_z w128 c.from.result wide ∙ c.from.ensures ∙ to_z-of_z w64 c.in-Optimum.best fits in
    on_ok c.push_row.result _ _ (λ written. rw c.in-Optimum.is (
      line_text (row_words fit c.in-Optimum.best measures),
      (
        fit,
        c.in_ok-fit-in-Optimum.ensures,
        (
          measures,
          subst (λ pieces. AreMeasuredBy c.in-Optimum.others pieces measures) c.deref.ensures.value
              c.in_ok-measures-in-Optimum.ensures,
          refl,
        ),
      ),
      written ∙ ap (λ (z : ℤ). c.args.out.now.items ++ line_text (row_words fit z measures)) least,
    )) c.push_row.ensures
