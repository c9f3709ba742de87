use Rattle.std.proofs.Common.{Ok, ap, sym, ◌∙◌}
use Rattle.tf_prepare.specs.TimedData.{TimedData}
use Rattle.tf_engine.specs.Passed.{of_read}
use Rattle.tf_engine.proofs.Unread.{err_is}
use Rattle.tf_engine.specs.declared.fault.RunFault.TheVariants.{OutOfMemory}
use Rattle.tf_bounding.proofs.ShopTimes.{IsShopRead, shop_unread, shop_too_large, shop_timed}
use Rattle.tf_bounding.proofs.timed_read.shop_in.Goals as goal

pub returns-in_err-instance : goal.returns-in_err-instance
returns-in_err-instance g c =
    err_is (IsShopRead g.row.A.Denot c.args.name.now c.args.text.now)
    (of_read c.in_err-instance.field-0.0) _ c.from_residual.ensures.1
    (shop_unread g.row.A.Denot c.args.name.now c.args.text.now c.in_err-instance.field-0.0
    c.in_err-instance.ensures)

pub returns-then-is_too_much : goal.returns-then-is_too_much
returns-then-is_too_much g c =
    shop_too_large g.row.A.Denot c.args.name.now c.args.text.now c.in_ok-instance.instance
    c.in_ok-instance.ensures (sym c.if-is_too_much.ensures)

pub times_by_machine-requires-clause-has : goal.times_by_machine-requires-clause-has
times_by_machine-requires-clause-has g c = (
  c.in_ok-instance.instance,
  c.in_ok-instance.ensures,
  sym c.len.ensures.value,
  sym c.machines_of.ensures.value,
)

pub returns-in_err-times : goal.returns-in_err-times
returns-in_err-times g c =
    err_is (IsShopRead g.row.A.Denot c.args.name.now c.args.text.now) OutOfMemory _
    c.from_residual-in_err-times.ensures.1 tt

pub returns : goal.returns
returns g c =
    shop_timed g.row.A.Denot c.args.name.now c.args.text.now c.in_ok-instance.instance
    c.in_ok-instance.ensures (sym c.if-is_too_much.ensures) c.machines_of.result
    c.machines_of.ensures.value c.in_ok-times.times.items c.in_ok-times.ensures
    ∙ ap (λ (timed : TimedData). Ok timed) (sym c.by_machine.ensures)
