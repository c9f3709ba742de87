use Rattle.std.proofs.Common.{rules, ◌≡◌, ℤ, ℕ, List, ◌++◌, [], ◌∷◌, SFits, codes, to_z, of_z, ap, subst}
use Rattle.std.specs.Fmt.{signed_decimal}
use Rattle.std.specs.Int.{w64}
use Rattle.std.proofs.lemmas.Int.{to_z-of_z}
use Rattle.tf_text.specs.AnswerText.{line_text}
use Rattle.tf_trace.specs.RunTracing.{EndsInValue}
use Rattle.tf_trace.proofs.run_trace.trace_bytes.Goals as goal

-- the value is a number of 64 bits, so it is written as it is
ends_in : (words out : List ℕ) (value : ℤ) → SFits w64 value
    → out ≡ words ++ line_text (codes "value" ∷ signed_decimal (to_z w64 (of_z w64 value)) ∷ [])
    → EndsInValue value out
ends_in words out value fits is = (
  words,
  subst (λ (z : ℤ). out ≡ words ++ line_text (codes "value" ∷ signed_decimal z ∷ []))
      (to_z-of_z w64 value fits) is,
)

pub returns : goal.returns
returns c =
    let fits : SFits w64 c.answer.inside.value = search rules in
    subst (λ (v : ℤ). EndsInValue v c.push_number_line.new.text.items)
    (ap (λ a. a.value) c.answer.view_is)
    (ends_in _ _ c.answer.inside.value fits c.in_ok-push_number_line.ensures)
