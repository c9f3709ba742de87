use Rattle.std.proofs.Common.{◌≡◌, ℤ, SFits, [], ◌∷◌, ◌++◌, codes, ap, ◌∙◌, rules}
use Rattle.std.specs.Fmt.{signed_decimal}
use Rattle.std.specs.Int.{w128}
use Rattle.std.proofs.lemmas.Int.{to_z-of_z}
use Rattle.tf_text.specs.AnswerText.{line_text}
use Rattle.tf_text.proofs.Written.{then}
use Rattle.tf_assess.proofs.writing.push_bound.Goals as goal

pub returns : goal.returns
returns g c =
    let bound = c.args.bound.now.value in
    let fits : SFits w128 bound = search rules in
    let line : c.push_number_line.new.text.items ≡ c.args.text.now.items
    ++ line_text (codes "bound" ∷ signed_decimal bound ∷ []) =
    c.in_ok-push_number_line.ensures
    ∙ ap (λ (v : ℤ). c.args.text.now.items ++ line_text (codes "bound" ∷ signed_decimal v ∷ []))
    (to_z-of_z w128 bound fits) in
    then _ _ _ _ _ line c.in_ok-push_certificate.ensures
