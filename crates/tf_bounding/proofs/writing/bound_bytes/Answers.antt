use Rattle.std.proofs.Common.{rules, ◌≡◌, ℕ, ℤ, SFits, [], ◌∷◌, ◌++◌, codes, subst}
use Rattle.std.specs.Int.{w128}
use Rattle.std.proofs.lemmas.Int.{to_z-of_z}
use Rattle.std.specs.Fmt.{decimal, signed_decimal}
use Rattle.tf_text.specs.AnswerText.{line_text}
use Rattle.tf_bounding.specs.BoundText.{bound_text}
use Rattle.tf_bounding.proofs.Written.{bound_written}
use Rattle.tf_bounding.proofs.writing.bound_bytes.Goals as goal

pub returns : goal.returns
returns g c =
    let fits : SFits w128 c.args.found.now.value = search rules in
    subst (λ (n : ℕ). c.extend_from_slice-2.new.self.items
    ≡ bound_text c.args.task.now n c.args.found.now.value c.args.found.now.certificate)
    c.len.ensures.value
    (bound_written _ c.args.task.now _ c.args.found.now.value c.args.found.now.certificate
    _ _ _ _ _ _ _ _ c.in_ok-text.ensures.items (search rules) c.in_ok-push.ensures.items
    c.in_ok-push_number_line.ensures
    (subst (λ (m : ℕ). c.push_number_line-2.new.text.items
    ≡ c.push_number_line.new.text.items ++ line_text (codes "machines" ∷ decimal m ∷ []))
    c.machines.ensures.value c.in_ok-push_number_line-2.ensures)
    (subst (λ (z : ℤ). c.push_number_line-3.new.text.items
    ≡ c.push_number_line-2.new.text.items ++ line_text (codes "value" ∷ signed_decimal z ∷ []))
    (to_z-of_z w128 c.args.found.now.value fits) c.in_ok-push_number_line-3.ensures)
    c.in_ok-push_certificate.ensures
    c.in_ok-extend_from_slice-2.ensures.items)
