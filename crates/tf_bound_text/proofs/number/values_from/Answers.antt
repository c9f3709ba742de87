use Rattle.std.proofs.Common.{◌≡◌, ℤ, ◌++◌, ◌∷◌, [], List, SFits, to_z, of_z, sym, ap, ◌∙◌, rules}
use Rattle.std.specs.Int.{w64}
use Rattle.std.proofs.lemmas.Int.{to_z-of_z}
use Rattle.std.proofs.lemmas.Result.{err_from_is_err_and}
use Rattle.tf_words.specs.Words.{words}
use Rattle.tf_bound_text.specs.BoundReading.{values}
use Rattle.tf_bound_text.proofs.Values.{with_values, value_read, value_fails, values_end}
use Rattle.tf_bound_text.proofs.number.values_from.Goals as goal

pub returns-in_err-value : goal.returns-in_err-value
returns-in_err-value g c =
    let p = err_from_is_err_and c.from_residual.result c.from_residual.ensures.1 in
    rw (p.1, p.2)
    (value_fails _ _ _ _ _ _ _ c.loop-word.invariant c.in-Some.ensures.words c.in_err-value.ensures)

pub loop-word-preserved : goal.loop-word-preserved
loop-word-preserved g c =
    let fits : SFits w64 c.in_ok-value.value = search rules in
    let same : to_z w64 (of_z w64 c.in_ok-value.value) ≡ c.in_ok-value.value =
    to_z-of_z w64 c.in_ok-value.value fits in
    ap (λ (items : List ℤ). with_values items (values c.args.line (words c.in-Some.after.now)))
    (c.in_ok-push.ensures.items ∙ ap (λ (z : ℤ). c.loop-word.values.items ++ z ∷ []) same)
    ∙ sym (value_read _ _ _ _ _ _ c.in-Some.ensures.words c.in_ok-value.ensures)
    ∙ c.loop-word.invariant

pub returns : goal.returns
returns g c = sym c.loop-word.invariant ∙ values_end _ _ _ c.in_default.ensures.words
