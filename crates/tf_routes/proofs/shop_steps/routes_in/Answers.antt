use Rattle.std.proofs.Common.{◌≡◌, suc, ◌+◌, ◌-◌, arith}
use Rattle.tf_routes.proofs.ShopSteps.{routes_done, routes_fail, routes_next}
use Rattle.tf_routes.proofs.shop_steps.routes_in.Goals as goal

pub returns-in-Err : goal.returns-in-Err
returns-in-Err g c =
    let left : c.args.jobs - c.loop.counter ≡ suc (c.args.jobs - (c.loop.counter + 1)) =
    omega arith in
    routes_fail c.args.machines _ _ c.loop.routes.items _ _ _ left c.in-Err.ensures
    c.loop.invariant

pub loop-preserved : goal.loop-preserved
loop-preserved g c =
    let left : c.args.jobs - c.loop.counter ≡ suc (c.args.jobs - (c.loop.counter + 1)) =
    omega arith in
    routes_next c.args.machines _ _ c.loop.routes.items _ _ _ _ _ left
    c.in_ok-push-in-Ok.ensures.items c.in-Ok.ensures c.loop.invariant

pub returns : goal.returns
returns g c =
    let over : c.args.jobs - c.loop.counter ≡ 0 = omega arith in
    routes_done c.args.machines _ c.loop.routes.items _ _ over c.loop.invariant
