use Rattle.std.proofs.Common.{◌∷◌, [], ◌++◌, codes, ap, ◌∙◌, rules, SFits}
use Rattle.std.specs.Fmt.{signed_decimal}
use Rattle.std.specs.Int.{w128}
use Rattle.std.specs.List.{flat_map}
use Rattle.std.proofs.lemmas.Int.{to_z-of_z}
use Rattle.tf_evaluate.proofs.Written.{step_written}
use Rattle.tf_evaluate.proofs.writing.push_step.Goals as goal

pub returns : goal.returns
returns g c =
    let fits : SFits w128 c.args.step.now.result = search rules in
    step_written c.args.step.now _ _ _ _ _ c.in_ok-extend_from_slice.ensures.items
    c.in_ok-push_terms.ensures
    (c.in_ok-push_quantity.ensures
    ∙ ap (λ z. c.push_terms.new.text.items
    ++ flat_map (λ word. 32 ∷ word) (codes "=" ∷ signed_decimal z ∷ []))
    (to_z-of_z w128 c.args.step.now.result fits))
    c.in_ok-push.ensures.items
