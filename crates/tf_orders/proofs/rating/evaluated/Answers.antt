use Rattle.std.proofs.Common.{rules, ℤ, SFits, w64, ap, subst, ◌∙◌}
use Rattle.std.proofs.lemmas.Int.{to_z-of_z}
use Rattle.tf_assess.specs.Measures.{AreMeasuredBy, measured_text}
use Rattle.tf_orders.specs.OrderText.{IsBesideOptimum}
use Rattle.tf_orders.proofs.rating.evaluated.Goals as goal

pub returns-in_ok-text-in-Optimum : goal.returns-in_ok-text-in-Optimum
returns-in_ok-text-in-Optimum g c =
    let fits : SFits w64 c.in-Optimum.best = search rules in
    let evaluation = c.in_ok-evaluation-in-Optimum.evaluation in
    let measures = c.in_ok-measures-in-Optimum.measures in
    let is : IsBesideOptimum c.in-Optimum.problem c.in-Optimum.task c.in-Optimum.best
    c.in-Optimum.steps.items c.args.pieces.items evaluation =
    subst (λ (best : ℤ). IsBesideOptimum c.in-Optimum.problem c.in-Optimum.task best
    c.in-Optimum.steps.items c.args.pieces.items evaluation) (to_z-of_z w64 c.in-Optimum.best fits)
    c.in_ok-evaluation-in-Optimum.ensures in
    rw c.in-Optimum.is (
      evaluation,
      is,
      (
        measures,
        subst (λ pieces. AreMeasuredBy c.in-Optimum.others pieces measures) c.deref.ensures.value
            c.in_ok-measures-in-Optimum.ensures,
        c.in_ok-text-in-Optimum.ensures
            ∙ ap (λ text. measured_text text measures) c.in_ok-evaluation_bytes-in-Optimum.ensures,
      ),
      c.standing.ensures,
    )

pub returns-in_ok-text-in-Bound : goal.returns-in_ok-text-in-Bound
returns-in_ok-text-in-Bound g c = rw c.in-Bound.is (
  c.in_ok-evaluation-in-Bound.evaluation,
  c.in_ok-evaluation-in-Bound.ensures,
  (
    c.in_ok-measures-in-Bound.measures,
    subst (λ pieces. AreMeasuredBy c.in-Bound.others pieces c.in_ok-measures-in-Bound.measures)
        c.deref-in-Bound.ensures.value c.in_ok-measures-in-Bound.ensures,
    c.in_ok-text-in-Bound.ensures
        ∙ ap (λ text. measured_text text c.in_ok-measures-in-Bound.measures)
        c.in_ok-evaluation_bytes-in-Bound.ensures,
  ),
  c.standing-in-Bound.ensures,
)
