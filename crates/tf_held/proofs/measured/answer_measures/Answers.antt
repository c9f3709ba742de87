use Rattle.std.proofs.Common.{ap, ◌∙◌, subst}
use Rattle.tf_assess.specs.Measures.{AreMeasures}
use Rattle.tf_held.proofs.measured.answer_measures.Goals as goal

pub returns : goal.returns
returns c =
    let posed = rw c.in-Some.is at c.in_ok-posed.ensures in
    let answer = rw c.in-Some-2.is at c.in_ok-answer.ensures in (
      c.in-Some.posed,
      answer.0,
      posed,
      answer.1,
      subst (λ pieces. AreMeasures c.in-Some.posed pieces c.in_ok-measures_of.field-0)
          (c.as_slice.ensures ∙ ap (λ a. a.pieces) c.answer.view_is ∙ ap (λ a. a.pieces) answer.2)
          c.in_ok-measures_of.ensures,
    )
