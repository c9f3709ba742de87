use Rattle.std.proofs.Common.{Err, ap, ◌∙◌}
use Rattle.tf_text.specs.Input.{is_device}
use Rattle.tf_orders.proofs.Reading.{orders_failing, orders_wanting, orders_too_long, orders_had}
use Rattle.tf_orders.proofs.case_read.orders_read.Goals as goal

pub returns-in-Err-TooLong : goal.returns-in-Err-TooLong
returns-in-Err-TooLong g c =
    let had = c.in-Err-TooLong.ensures in
    orders_too_long g.row.A.Denot _ _ _ _ had.pulled had.counted
    (had.device ∙ ap is_device c.in-Err-TooLong.field-0-is)
    (had.too_long (ap Err c.in-Err-TooLong.field-0-is))

pub returns-in-Err-Device : goal.returns-in-Err-Device
returns-in-Err-Device g c =
    let had = c.in-Err-Device.ensures in
    orders_failing g.row.A.Denot _ _ _ _ had.pulled had.counted
    (had.device ∙ ap is_device c.in-Err-Device.field-0-is)

pub returns-in-Err-OutOfMemory : goal.returns-in-Err-OutOfMemory
returns-in-Err-OutOfMemory g c =
    let had = c.in-Err-OutOfMemory.ensures in
    orders_wanting g.row.A.Denot _ _ _ _ had.pulled had.counted
    (had.device ∙ ap is_device c.in-Err-OutOfMemory.field-0-is)

pub returns-in-Ok : goal.returns-in-Ok
returns-in-Ok g c =
    let had = c.in-Ok.ensures in
    orders_had g.row.A.Denot _ _ _ _ had.pulled had.counted had.unfailed _ had.text had.fits had.end
