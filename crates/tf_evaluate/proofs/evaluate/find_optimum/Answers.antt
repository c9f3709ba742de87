use Rattle.std.proofs.Common.{◌≡◌, ℤ, Ok, rules, ap, sym, ◌∙◌, SFits, w64, to_z, of_z}
use Rattle.std.proofs.lemmas.Int.{to_z-of_z}
use Rattle.std.specs.Int.{w128}
use Rattle.tf_check.specs.Bound.{bound_by}
use Rattle.tf_check.specs.Claim.{AnswerData, Claim}
use Rattle.tf_evaluate.proofs.Standing.{bounds_value, optimum_is}
use Rattle.tf_evaluate.proofs.evaluate.find_optimum.Goals as goal

-- a number that is read is the value of the answer
value_is : (value : ℤ) (a : AnswerData) → SFits w64 value → value ≡ a.value
    → to_z w64 (of_z w64 value) ≡ a.value
value_is value a fits is = to_z-of_z w64 value fits ∙ is

pub steps_of-requires-clause-bound : goal.steps_of-requires-clause-bound
steps_of-requires-clause-bound g c =
    let k = c.args.task.now in
    let a = c.in_ok-answer.answer in
    let fits : SFits w64 c.answer.inside.value = search rules in
    let wide : SFits w128 c.from.result = search rules in
    ap (λ (claim : Claim). bound_by claim k)
    (ap (λ (a : AnswerData). a.certificate) c.answer.view_is)
    ∙ bounds_value k a c.class-class.ensures.sound c.in_ok-answer.ensures.accepted
    ∙ ap (λ (z : ℤ). Ok z) (sym (to_z-of_z w128 c.from.result wide ∙ c.from.ensures
    ∙ value_is c.answer.inside.value a fits (ap (λ (a : AnswerData). a.value) c.answer.view_is)))

pub returns-clause-shown : goal.returns-clause-shown
returns-clause-shown g c =
    let a = c.in_ok-answer.answer in
    let fits : SFits w64 c.answer.inside.value = search rules in
    let wide : SFits w128 c.from.result = search rules in
    let value = value_is c.answer.inside.value a fits
    (ap (λ (a : AnswerData). a.value) c.answer.view_is) in
    optimum_is c.args.detail c.args.task.now a _ _ _ c.in_ok-steps.steps.items
    c.class-class.ensures.sound c.in_ok-answer.ensures.accepted c.in_ok-answer.ensures.best value
    (to_z-of_z w128 c.from.result wide ∙ c.from.ensures ∙ value)
    (ap (λ (a : AnswerData). a.certificate) c.answer.view_is) c.in_ok-steps.ensures.steps
    c.in_ok-steps.ensures.ends
