use Rattle.std.proofs.Common.{sym}
use Rattle.std.proofs.lemmas.Result.{err_from_is_err_and}
use Rattle.tf_routes.proofs.TableWords.{machine_fails, second_at, step_read, time_fails, without_at}
use Rattle.tf_routes.proofs.routed_table.step_at.Goals as goal

pub returns-in_default-clause-step : goal.returns-in_default-clause-step
returns-in_default-clause-step c = λ before marked.
    sym (without_at before _ _ (sym c.in_default.ensures))

pub returns-then-has_at-clause-step : goal.returns-then-has_at-clause-step
returns-then-has_at-clause-step c = λ before marked.
    sym (second_at before _ _ _ _ (sym c.in-Some.ensures) (sym c.if-has_at.ensures))

pub returns-in_err-time-clause-step : goal.returns-in_err-time-clause-step
returns-in_err-time-clause-step c = λ before marked.
    let p = err_from_is_err_and c.from_residual.result c.from_residual.ensures.1 in
    rw (p.1, p.2)
    (sym (time_fails before _ _ _ _ _ (sym c.in-Some.ensures) (sym c.if-has_at.ensures)
    c.in_err-time.ensures))

pub returns-in_err-machine-clause-step : goal.returns-in_err-machine-clause-step
returns-in_err-machine-clause-step c = λ before marked.
    let p = err_from_is_err_and c.from_residual-in_err-machine.result
    c.from_residual-in_err-machine.ensures.1 in
    rw (p.1, p.2)
    (sym (machine_fails before _ _ _ _ _ _ _ (sym c.in-Some.ensures) (sym c.if-has_at.ensures)
    c.in_ok-time.ensures c.number_of.ensures (c.in_err-machine.ensures.machine before marked)))

pub returns-clause-step : goal.returns-clause-step
returns-clause-step c = λ before marked.
    sym (step_read before _ _ _ _ _ _ _ (sym c.in-Some.ensures) (sym c.if-has_at.ensures)
    c.in_ok-time.ensures c.number_of.ensures (c.in_ok-machine.ensures.machine before marked))
