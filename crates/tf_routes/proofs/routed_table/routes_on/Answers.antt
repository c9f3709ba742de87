use Rattle.std.proofs.Common.{refl}
use Rattle.std.proofs.lemmas.Result.{err_from_is_err_and}
use Rattle.tf_read.proofs.Each.{each_done, each_faults, each_next}
use Rattle.tf_routes.specs.RoutedTable.{job_route}
use Rattle.tf_routes.proofs.routed_table.routes_on.Goals as goal

pub returns-in_err-route : goal.returns-in_err-route
returns-in_err-route g c =
    let p = err_from_is_err_and c.from_residual.result c.from_residual.ensures.1 in
    rw (p.1, p.2)
    (each_faults (λ k. job_route) _ _ _ _ _ _ _ _ c.loop-line.invariant c.in-Some.ensures refl
    c.in_err-route.ensures)

pub loop-line-preserved : goal.loop-line-preserved
loop-line-preserved g c =
    each_next (λ k. job_route) _ _ _ _ _ _ _ _ _ _ c.in_ok-push.ensures.items
    c.in_ok-push.ensures.len refl c.in-Some.ensures c.in_ok-route.ensures c.loop-line.invariant

pub returns : goal.returns
returns g c = each_done (λ k. job_route) _ _ _ _ c.loop-line.invariant c.in_default.ensures
