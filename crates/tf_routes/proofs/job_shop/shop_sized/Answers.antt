use Rattle.std.proofs.Common.{◌≤◌, unwrap_or, Ok, ap, sym, subst, ◌∙◌, arith}
use Rattle.std.specs.List.{All}
use Rattle.std.proofs.lemmas.Result.{err_from_is_err_and}
use Rattle.tf_model.specs.InstanceData.{InstanceData, IsInstance}
use Rattle.tf_model.specs.Limit.{limit}
use Rattle.tf_routes.specs.JobShop.{first_time}
use Rattle.tf_routes.specs.RoutedData.{HasRoutes}
use Rattle.tf_routes.proofs.ShopJobs.{routes_short, shop_instance, shop_routed}
use Rattle.tf_routes.proofs.ShopSized.{AreSizes, made, many_jobs, many_machines, no_jobs, no_machines, sized_fails, sized_read}
use Rattle.tf_routes.proofs.job_shop.shop_sized.Goals as goal
use Rattle.tf_routes.proofs.job_shop.shop_sized.Goals.{then-sizes-eq0-2-via-then-sizes-eq0-2, then-sizes-eq0-2-via-else-sizes-eq0-2+then-sizes-2}

pub returns-then-sizes-eq0-clause-gives : goal.returns-then-sizes-eq0-clause-gives
returns-then-sizes-eq0-clause-gives g c = no_jobs _ _ _ _ c.if-sizes-eq0.true

pub returns-then-sizes-clause-gives : goal.returns-then-sizes-clause-gives
returns-then-sizes-clause-gives g c = many_jobs _ _ _ _ (omega arith) (omega arith)

pub returns-in_err-routes-clause-gives : goal.returns-in_err-routes-clause-gives
returns-in_err-routes-clause-gives g c =
    let sizes : AreSizes c.args.sizes.now.jobs c.args.sizes.now.machines =
    record { some = omega arith; few = omega arith; one = omega arith; several = omega arith } in
    let p = err_from_is_err_and c.from_residual.result c.from_residual.ensures.1 in
    rw (p.1, p.2) (sized_fails _ _ _ _ _ sizes c.in_err-routes.ensures)

pub routed_jobs-requires : goal.routed_jobs-requires
routed_jobs-requires g c =
    subst (λ rs. All (λ route. first_time route ≤ limit) rs) (sym c.deref.ensures.value)
    (routes_short _ _ _ _ c.in_ok-routes.ensures)

pub of-instance-requires : goal.of-instance-requires
of-instance-requires g c =
    subst IsInstance
    (made c.args.sizes.now.machines c.in_ok-routes.routes.items _ _ _ c.in_ok-jobs.ensures
    c.deref.ensures.value c.new.ensures.items)
    (shop_instance _ _ _ _ c.in_ok-routes.ensures (omega arith) (omega arith) (omega arith)
    (omega arith))

pub returns-clause-gives : goal.returns-clause-gives
returns-clause-gives g c =
    let sizes : AreSizes c.args.sizes.now.jobs c.args.sizes.now.machines =
    record { some = omega arith; few = omega arith; one = omega arith; several = omega arith } in
    let is = made c.args.sizes.now.machines c.in_ok-routes.routes.items _ _ _ c.in_ok-jobs.ensures
    c.deref.ensures.value c.new.ensures.items ∙ sym c.of-instance.ensures in
    sized_read _ _ _ _ _ sizes c.in_ok-routes.ensures
    ∙ ap (λ (i : InstanceData).
    Ok (record { instance = i; routes = c.in_ok-routes.routes.items })) is

pub returns-clause-routed : goal.returns-clause-routed
returns-clause-routed g c =
    let is = made c.args.sizes.now.machines c.in_ok-routes.routes.items _ _ _ c.in_ok-jobs.ensures
    c.deref.ensures.value c.new.ensures.items ∙ sym c.of-instance.ensures in
    subst (λ (i : InstanceData). HasRoutes (unwrap_or i.machines 0)
    (record { instance = i; routes = c.in_ok-routes.routes.items })) is
    (shop_routed _ _ _ _ c.in_ok-routes.ensures)

pub returns-then-sizes-eq0-2-clause-gives : goal.returns-then-sizes-eq0-2-clause-gives
returns-then-sizes-eq0-2-clause-gives g c =
    elim c.then-sizes-eq0-2.branch [
      | then-sizes-eq0-2-via-then-sizes-eq0-2 w ↦
          no_machines _ _ _ _ (omega arith) (omega arith) w.if-sizes-eq0-2.true
      | then-sizes-eq0-2-via-else-sizes-eq0-2+then-sizes-2 w ↦
          many_machines _ _ _ _ (omega arith) (omega arith) (omega arith) (omega arith)
    ]
