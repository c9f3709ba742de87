use Rattle.std.proofs.Common.{ℕ, List, sym, ap, ◌∙◌}
use Rattle.std.proofs.lemmas.Result.{err_from_is_err_and}
use Rattle.tf_model.specs.Limit.{limit}
use Rattle.tf_words.specs.Words.{words}
use Rattle.tf_bound_text.specs.BoundReading.{naturals}
use Rattle.tf_bound_text.proofs.Naturals.{with_numbers, number_read, number_fails, numbers_end}
use Rattle.tf_bound_text.proofs.number.numbers_from.Goals as goal

pub returns-in_err-number : goal.returns-in_err-number
returns-in_err-number g c =
    let p = err_from_is_err_and c.from_residual.result c.from_residual.ensures.1 in
    rw (p.1, p.2)
    (number_fails _ _ _ _ _ _ _ _ _ c.loop-word.invariant c.in-Some.ensures.words
    c.in_err-number.ensures.read)

pub loop-word-preserved : goal.loop-word-preserved
loop-word-preserved g c =
    ap (λ (numbers : List ℕ). with_numbers numbers
    (naturals c.args.line 0 limit (words c.in-Some.after.now)))
    c.in_ok-push.ensures.items
    ∙ sym (number_read _ _ _ _ _ _ _ _ c.in-Some.ensures.words c.in_ok-number.ensures.read)
    ∙ c.loop-word.invariant

pub returns : goal.returns
returns g c =
    sym c.loop-word.invariant ∙ numbers_end _ _ _ _ _ c.in_default.ensures.words
