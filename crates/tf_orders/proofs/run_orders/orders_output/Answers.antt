use Rattle.std.proofs.Common.{List, ℕ, inr, refl, subst, ◌∙◌}
use Rattle.tf_engine.proofs.Devices.{both_later}
use Rattle.tf_engine.proofs.Ending.{unread, stopped, passed, not_on_instance}
use Rattle.tf_orders.specs.OrderText.{AreRated, IsMalformed}
use Rattle.tf_orders.specs.Measuring.{detail_of}
use Rattle.tf_orders.proofs.Running.{by_offer, case_refused, cyclic, measure_is, measures_with, others_are, short_text}
use Rattle.tf_orders.proofs.run_orders.orders_output.Goals as goal

pub returns-in_err-case : goal.returns-in_err-case
returns-in_err-case g c =
    let had = by_offer _ _ c.is_some-bounded.ensures c.in_err-case.ensures in
    unread c.in_err-case.field-0.0 (had.text, had.orders_text) (had.is_all, had.is_whole)
    (case_refused _ _ _ had.text had.orders_text) (λ failed. failed) had.given had.readers
    c.from_residual.ensures.1

pub returns-in_err-measure : goal.returns-in_err-measure
returns-in_err-measure g c =
    let had = by_offer _ _ c.is_some-bounded.ensures c.in_ok-case.ensures in
    let no = c.in_err-measure.ensures in
    stopped c.in_err-measure.field-0.0 (had.text, had.orders_text) (had.is_all, had.is_whole)
    (λ refused no. cyclic _ _ _ had.text had.orders_text no.0 refused _ had.given.means no.1 no.2) no
    (both_later had.readers _ (not_on_instance (λ refused no. rw no.1 refl) _ no))
    c.from_residual-in_err-measure.ensures.1

pub rating_of-requires : goal.rating_of-requires
rating_of-requires g c = short_text _ _ c.in_ok-case.ensures c.as_slice.ensures.value

pub returns : goal.returns
returns g c =
    let had = by_offer _ _ c.is_some-bounded.ensures c.in_ok-case.ensures in
    let form = c.args.asked.form in
    let offered = c.args.measuring.aids.offered in
    let others = c.args.measuring.others in
    let m = c.with_others-measure.result in
    let whole = c.as_slice.ensures.value ∙ had.given.text_is in
    let measures = measures_with _ (detail_of form) offered others _ _ m c.detail.ensures
    c.in_ok-measure.ensures c.with_others-measure.ensures in
    let measure = measure_is (detail_of form) offered c.args.asked.request.now others had.text _ m
    had.given.means measures in
    passed (had.text, had.orders_text) (had.is_all, had.is_whole)
    (λ output are. (
      m,
      record {
        measure = measure;
        others_are = others_are (detail_of form) offered others _ m measures;
        rated_is = subst (λ (bs : List ℕ). AreRated form m bs output.text.items output.returned)
            whole are;
      },
    ))
    (λ refused bad. inr (inr (inr (inr (
      m,
      record {
        measure = measure;
        fault = bad.0;
        is = bad.1;
        malformed = subst (λ (bs : List ℕ). IsMalformed form m bs bad.0) whole bad.2;
      },
    )))))
    had.readers
    (λ s bad. both_later had.readers s (not_on_instance (λ refused bad. rw bad.1 refl) s bad))
    c.rating_of.ensures
