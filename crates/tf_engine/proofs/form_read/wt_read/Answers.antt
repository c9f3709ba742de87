use Rattle.std.proofs.Common.{[], rules, arith, refl, inl, sym}
use Rattle.std.proofs.KnownBytes.{Consumes-nil}
use Rattle.tf_read.specs.WeightedTardiness.{weighted_tardiness}
use Rattle.tf_engine.specs.FormData.{InWt}
use Rattle.tf_engine.specs.Parts.{ReadsTo, instance_said}
use Rattle.tf_engine.proofs.ReadThrough.{reads_wanting, reads_failing, reads_value, reads_fault}
use Rattle.tf_engine.proofs.Unread.{err_is, too_long}
use Rattle.tf_engine.proofs.form_read.wt_read.Goals as goal

pub returns-in_err-wt : goal.returns-in_err-wt
returns-in_err-wt g c =
    err_is (ReadsTo (instance_said (InWt c.args.jobs c.args.index)) _ _ _) _ _
    c.from_residual.ensures.1
    (reads_wanting _ g.row.A.Denot _ (weighted_tardiness c.args.jobs c.args.index) _ _ _
    (omega arith) (inl refl) ([], search rules, Consumes-nil _))

pub returns-in_err-drain : goal.returns-in_err-drain
returns-in_err-drain g c =
    err_is (ReadsTo (instance_said (InWt c.args.jobs c.args.index)) _ _ _) _ _
    c.from_residual-in_err-drain.ensures.1
    (reads_failing _ g.row.A.Denot _ (weighted_tardiness c.args.jobs c.args.index) _ _ _
    c.drain.ensures.counted
    c.in_err-drain.ensures.device
    (c.drain.ensures.taken.bytes, c.drain.ensures.taken.at_most, c.drain.ensures.taken.given))

pub returns-in_err-into_numbers : goal.returns-in_err-into_numbers
returns-in_err-into_numbers g c =
    let drained = c.in_ok-drain.ensures.taken in
    err_is (ReadsTo (instance_said (InWt c.args.jobs c.args.index)) _ _ _) _ _
    c.from_residual-in_err-into_numbers.ensures.1
    (reads_fault _ g.row.A.Denot _ (weighted_tardiness c.args.jobs c.args.index) _ _ _
    c.drain.ensures.counted drained.bytes
    drained.at_most drained.given drained.ended
    c.in_ok-drain.ensures.unfailed (too_long (InWt c.args.jobs c.args.index))
    c.in_err-into_numbers.field-0.0
    (sym (c.in_err-into_numbers.ensures _ drained.bytes (drained.taken _ [] c.in_ok-wt.ensures.given))))

pub returns : goal.returns
returns g c =
    let drained = c.in_ok-drain.ensures.taken in
    reads_value _ g.row.A.Denot _ (weighted_tardiness c.args.jobs c.args.index) _ _ _
    c.drain.ensures.counted drained.bytes
    drained.at_most drained.given drained.ended
    c.in_ok-drain.ensures.unfailed (too_long (InWt c.args.jobs c.args.index)) c.in_ok-into_numbers.field-0
    (sym (c.in_ok-into_numbers.ensures _ drained.bytes (drained.taken _ [] c.in_ok-wt.ensures.given)))
