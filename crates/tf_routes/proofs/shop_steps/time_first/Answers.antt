use Rattle.std.proofs.lemmas.Result.{err_from_is_err_and}
use Rattle.tf_routes.proofs.ShopWords.{time_fails, time_none, time_read}
use Rattle.tf_routes.proofs.shop_steps.time_first.Goals as goal

pub returns-in_default : goal.returns-in_default
returns-in_default c = time_none _ c.in_default.ensures

pub returns-in_err-time : goal.returns-in_err-time
returns-in_err-time c =
    let p = err_from_is_err_and c.from_residual.result c.from_residual.ensures.1 in
    rw (p.1, p.2) (time_fails _ _ _ _ c.in-Some.ensures c.in_err-time.ensures)

pub returns : goal.returns
returns c = time_read _ _ _ _ c.in-Some.ensures c.in_ok-time.ensures
