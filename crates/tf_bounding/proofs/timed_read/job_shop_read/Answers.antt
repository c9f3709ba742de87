use Rattle.std.proofs.Common.{◌≤◌, Err, ap, arith}
use Rattle.tf_model.specs.Limit.{most_machines}
use Rattle.tf_routes.specs.JobShop.{job_shop}
use Rattle.tf_routes.specs.RoutedData.{RoutedData}
use Rattle.tf_engine.specs.Parts.{ReadsTo}
use Rattle.tf_engine.proofs.ReadThrough.{reads_input}
use Rattle.tf_engine.proofs.Unread.{err_is}
use Rattle.tf_bounding.specs.ShopTimes.{job_shop_said, machines_of}
use Rattle.tf_bounding.proofs.ShopTimes.{job_shop_too_long, routed_more}
use Rattle.tf_bounding.proofs.timed_read.job_shop_read.Goals as goal

pub returns-in_err-text-clause-said : goal.returns-in_err-text-clause-said
returns-in_err-text-clause-said g c =
    err_is (ReadsTo (job_shop_said c.args.name.now) _ _ _) _ _ c.from_residual.ensures.1
    (reads_input _ g.row.A.Denot _ (job_shop c.args.name.now) _ _ _ c.in_err-text.ensures.counted
    c.in_err-text.field-0.0
    (λ e. c.in_err-text.ensures.too_long (ap Err e)) c.in_err-text.ensures.device
    (job_shop_too_long c.args.name.now) c.in_err-text.ensures.pulled)

pub returns-clause-routed : goal.returns-clause-routed
returns-clause-routed g c =
    let same = ap (λ (r : RoutedData). machines_of r.instance) c.routed.view_is in
    let few : machines_of c.in_ok-routed.routed.instance ≤ most_machines =
    omega
    (arith, c.machines_of-machines.ensures.value, c.machines_of-machines.ensures.few, same) in
    routed_more (machines_of c.in_ok-routed.routed.instance) most_machines c.in_ok-routed.routed few
    c.in_ok-routed.ensures.routed
