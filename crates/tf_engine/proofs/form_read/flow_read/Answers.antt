use Rattle.std.proofs.Common.{[]}
use Rattle.tf_read.specs.FlowShop.{flow_shop}
use Rattle.tf_engine.specs.FormData.{InFlow}
use Rattle.tf_engine.specs.Parts.{ReadsTo, instance_said}
use Rattle.tf_engine.proofs.ReadThrough.{reads_failing, reads_value, reads_fails}
use Rattle.tf_engine.proofs.Unread.{err_is, too_long}
use Rattle.tf_engine.proofs.form_read.flow_read.Goals as goal

pub returns-in_err-drain : goal.returns-in_err-drain
returns-in_err-drain g c =
    err_is (ReadsTo (instance_said (InFlow c.args.name.now c.args.pair)) _ _ _) _ _
    c.from_residual.ensures.1
    (reads_failing _ g.row.A.Denot _ (flow_shop c.args.name.now c.args.pair) _ _ _
    c.drain.ensures.counted
    c.in_err-drain.ensures.device
    (c.drain.ensures.taken.bytes, c.drain.ensures.taken.at_most, c.drain.ensures.taken.given))

pub returns-in_err-into_numbers : goal.returns-in_err-into_numbers
returns-in_err-into_numbers g c =
    let drained = c.in_ok-drain.ensures.taken in
    err_is (ReadsTo (instance_said (InFlow c.args.name.now c.args.pair)) _ _ _) _ _
    c.from_residual-in_err-into_numbers.ensures.1
    (reads_fails _ g.row.A.Denot _ (flow_shop c.args.name.now c.args.pair) _ _ _
    c.drain.ensures.counted drained.bytes
    drained.at_most drained.given drained.ended
    c.in_ok-drain.ensures.unfailed (too_long (InFlow c.args.name.now c.args.pair))
    c.in_err-into_numbers.field-0.0
    (c.in_err-into_numbers.ensures.given _ drained.bytes (drained.taken _ [] c.new-flow.ensures)))

pub returns : goal.returns
returns g c =
    let drained = c.in_ok-drain.ensures.taken in
    reads_value _ g.row.A.Denot _ (flow_shop c.args.name.now c.args.pair) _ _ _
    c.drain.ensures.counted drained.bytes
    drained.at_most drained.given drained.ended
    c.in_ok-drain.ensures.unfailed (too_long (InFlow c.args.name.now c.args.pair))
    c.in_ok-into_numbers.field-0
    (c.in_ok-into_numbers.ensures.given _ drained.bytes (drained.taken _ [] c.new-flow.ensures))
