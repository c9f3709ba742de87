use Rattle.std.proofs.Common.{sym, ◌∙◌}
use Rattle.std.proofs.lemmas.Result.{err_from_is_err_and}
use Rattle.tf_options.specs.Matched.{given_of}
use Rattle.tf_options.proofs.Told.{told_of_options}
use Rattle.tf_options.proofs.options.work_by.Goals as goal

pub returns-in_err-options-clause-fault : goal.returns-in_err-options-clause-fault
returns-in_err-options-clause-fault c =
    let p = err_from_is_err_and c.from_residual-in_err-options.result
    c.from_residual-in_err-options.ensures.1 in
    rw (p.1, p.2)
    (told_of_options c.args.name.now (given_of c.args.given.now)
    (sym c.eq.ensures ∙ c.if-eq.false) (sym c.eq-2.ensures ∙ c.if-eq-2.false)
    (sym c.eq-3.ensures ∙ c.if-eq-3.false) _ c.in_err-options.ensures.fault)
