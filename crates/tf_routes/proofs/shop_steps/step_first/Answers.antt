use Rattle.std.proofs.lemmas.Result.{err_from_is_err_and}
use Rattle.tf_routes.proofs.ShopWords.{step_fails, step_read, untimed}
use Rattle.tf_routes.proofs.shop_steps.step_first.Goals as goal

pub returns-in_err-machine-clause-step : goal.returns-in_err-machine-clause-step
returns-in_err-machine-clause-step c = λ before marked.
    let p = err_from_is_err_and c.from_residual.result c.from_residual.ensures.1 in
    rw (p.1, p.2) (step_fails _ before _ _ (c.in_err-machine.ensures.machine before marked))

pub returns-in_err-time-clause-step : goal.returns-in_err-time-clause-step
returns-in_err-time-clause-step c = λ before marked.
    let p =
    err_from_is_err_and c.from_residual-in_err-time.result c.from_residual-in_err-time.ensures.1 in
    rw (p.1, p.2)
    (untimed _ before _ _ _ _ (c.in_ok-machine.ensures.machine before marked) c.in_err-time.ensures)

pub returns-clause-step : goal.returns-clause-step
returns-clause-step c = λ before marked.
    step_read _ before _ _ _ _ _ (c.in_ok-machine.ensures.machine before marked)
    c.in_ok-time.ensures
