use Rattle.std.proofs.lemmas.Result.{err_from_is_err_and}
use Rattle.tf_routes.proofs.ShopWords.{machine_fails, machine_none, machine_read}
use Rattle.tf_routes.proofs.shop_steps.machine_first.Goals as goal

pub returns-in_default-clause-machine : goal.returns-in_default-clause-machine
returns-in_default-clause-machine c = λ before marked. machine_none _ before _ c.in_default.ensures

pub returns-in_err-machine-clause-machine : goal.returns-in_err-machine-clause-machine
returns-in_err-machine-clause-machine c = λ before marked.
    let p = err_from_is_err_and c.from_residual.result c.from_residual.ensures.1 in
    rw (p.1, p.2)
    (machine_fails _ before _ _ _ _ _ c.in-Some.ensures c.number_of.ensures
    (c.in_err-machine.ensures.machine before marked))

pub returns-clause-machine : goal.returns-clause-machine
returns-clause-machine c = λ before marked.
    machine_read _ before _ _ _ _ _ c.in-Some.ensures c.number_of.ensures
    (c.in_ok-machine.ensures.machine before marked)
