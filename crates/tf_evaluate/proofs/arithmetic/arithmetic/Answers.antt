use Rattle.std.proofs.Common.{SFits, rules, ◌≡◌, List, None, ◌++◌, map, ap, sym, ◌∙◌}
use Rattle.std.specs.Int.{w128}
use Rattle.std.proofs.lemmas.Int.{to_z-of_z}
use Rattle.tf_check.specs.Certificate.{claim_of}
use Rattle.tf_evaluate.specs.declared.step.Step.{Step}
use Rattle.tf_evaluate.specs.Arithmetic.{step_of, first_terms, last_result}
use Rattle.tf_evaluate.proofs.EndsInBound.{steps_pushed, last_is_bound, ends_in_bound}
use Rattle.tf_evaluate.proofs.arithmetic.arithmetic.Goals as goal

pub returns-clause-steps : goal.returns-clause-steps
returns-clause-steps g c =
    let fits : SFits w128 c.args.bound = search rules in
    let k = c.args.task.now in
    let claim = claim_of c.args.certificate.now in
    let first : c.push_first_step.new.steps.items ≡ map step_of (first_terms k claim) =
    c.in_ok-push_first_step.ensures
    ∙ ap (λ (steps : List Step). steps ++ map step_of (first_terms k claim))
    c.new-steps.ensures.items in
    steps_pushed k claim _ _ _ first c.last_terms.ensures
    (to_z-of_z w128 c.args.bound fits
    ∙ sym (last_is_bound k claim c.args.bound c.requires.sound c.requires.given))
    c.in_ok-push.ensures.items

pub returns-clause-ends : goal.returns-clause-ends
returns-clause-ends g c =
    let k = c.args.task.now in
    let claim = claim_of c.args.certificate.now in
    ap (last_result None) (returns-clause-steps g c)
    ∙ ends_in_bound k claim c.args.bound c.requires.sound c.requires.given
