use Rattle.std.proofs.Common.{sym, ◌∙◌, refl}
use Rattle.std.proofs.lemmas.Result.{err_from_is_err_and}
use Rattle.tf_read.proofs.Fields.{field_read, field_fails, fields_end}
use Rattle.tf_read.proofs.field.job_of.Goals as goal

pub returns-in_err-add : goal.returns-in_err-add
returns-in_err-add g c = let p =
    err_from_is_err_and c.from_residual.result c.from_residual.ensures.1 in
    rw (p.1, p.2)
    (field_fails _ _ _ _ _ _ _ c.loop-word.invariant c.in-Some.ensures.words c.in_err-add.ensures)

pub loop-word-preserved : goal.loop-word-preserved
loop-word-preserved g c = sym (field_read _ _ _ _ _ _ c.in-Some.ensures.words c.in_ok-add.ensures)
    ∙ c.loop-word.invariant

pub returns-in-None : goal.returns-in-None
returns-in-None g c = sym c.loop-word.invariant ∙ fields_end _ _ _ c.in_default.ensures.words
    ∙ rw (← c.fields-2.view_is, c.in-None.is) refl

pub returns-in-Some-times : goal.returns-in-Some-times
returns-in-Some-times g c = sym c.loop-word.invariant ∙ fields_end _ _ _ c.in_default.ensures.words
    ∙ rw (← c.fields-2.view_is, c.in-Some-times.is) refl
