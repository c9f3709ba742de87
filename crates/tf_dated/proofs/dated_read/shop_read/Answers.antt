use Rattle.std.proofs.Common.{Ok, ap, sym}
use Rattle.tf_model.specs.Outcome.{◌>>=◌}
use Rattle.tf_routes.specs.RoutedData.{RoutedData}
use Rattle.tf_engine.specs.Parts.{ReadsTo}
use Rattle.tf_engine.proofs.ReadThrough.{reads_on, reads_then}
use Rattle.tf_engine.proofs.Unread.{err_is}
use Rattle.tf_bounding.specs.ShopTimes.{job_shop_said}
use Rattle.tf_dated.proofs.dated_read.shop_read.Goals as goal

pub returns-in_err-routed : goal.returns-in_err-routed
returns-in_err-routed g c =
    err_is (ReadsTo (λ text. job_shop_said c.args.name.now text >>= λ r. Ok r.instance) _ _ _) _ _
    c.from_residual.ensures.1
    (reads_on (λ (r : RoutedData). Ok r.instance) (job_shop_said c.args.name.now) _ _ _ _
    c.in_err-routed.ensures.said)

pub returns : goal.returns
returns g c =
    reads_then (λ (r : RoutedData). Ok r.instance) (job_shop_said c.args.name.now) _ _ _ _ _
    c.in_ok-routed.ensures.said (ap (λ (r : RoutedData). Ok r.instance) (sym c.routed.view_is))
