use Rattle.std.proofs.Common.{Err, None, ap, sym, subst}
use Rattle.tf_model.specs.Outcome.{◌>>=◌}
use Rattle.tf_text.specs.Input.{IsTextOf}
use Rattle.tf_read.specs.FlowShop.{flow_shop}
use Rattle.tf_engine.specs.FormData.{InFlow}
use Rattle.tf_engine.specs.Parts.{ReadsTo, instance_said}
use Rattle.tf_engine.proofs.ReadThrough.{reads_input}
use Rattle.tf_engine.proofs.Unread.{err_is, too_long}
use Rattle.tf_bounding.specs.ShopTimes.{with_times, shop_said}
use Rattle.tf_bounding.proofs.ShopTimes.{reads_as, reads_text}
use Rattle.tf_bounding.proofs.timed_read.shop_read.Goals as goal

pub returns-in_err-text : goal.returns-in_err-text
returns-in_err-text g c =
    err_is (ReadsTo (shop_said c.args.name.now) _ _ _) _ _ c.from_residual.ensures.1
    (reads_as (instance_said (InFlow c.args.name.now None)) (shop_said c.args.name.now) _ _ _ _
    (λ text refused h. ap (λ r. r >>= λ instance. with_times c.args.name.now text instance) h)
    (reads_input _ g.row.A.Denot _ (flow_shop c.args.name.now None) _ _ _
    c.in_err-text.ensures.counted c.in_err-text.field-0.0
    (λ e. c.in_err-text.ensures.too_long (ap Err e)) c.in_err-text.ensures.device
    (too_long (InFlow c.args.name.now None)) c.in_err-text.ensures.pulled))

pub returns : goal.returns
returns g c =
    let read = c.in_ok-text.ensures in
    reads_text _ g.row.A.Denot _ (shop_said c.args.name.now) _ _ _ _
    (subst (IsTextOf _) (sym c.as_slice.ensures.value) read.text) read.end read.unfailed read.pulled
    read.counted c.shop_in.result c.shop_in.ensures
