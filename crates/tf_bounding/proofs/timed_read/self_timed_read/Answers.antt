use Rattle.std.proofs.Common.{Ok, ap, sym}
use Rattle.tf_model.specs.InstanceData.{InstanceData}
use Rattle.tf_engine.specs.FormData.{form_of}
use Rattle.tf_engine.specs.Parts.{ReadsTo, instance_said}
use Rattle.tf_engine.proofs.ReadThrough.{reads_on, reads_then}
use Rattle.tf_engine.proofs.Unread.{err_is}
use Rattle.tf_prepare.specs.TimedData.{self_timed}
use Rattle.tf_bounding.specs.ShopTimes.{self_timed_said}
use Rattle.tf_bounding.proofs.timed_read.self_timed_read.Goals as goal

pub returns-in_err-instance : goal.returns-in_err-instance
returns-in_err-instance g c =
    let form = form_of c.args.form.now in
    err_is (ReadsTo (self_timed_said form) _ _ _) _ _ c.from_residual.ensures.1
    (reads_on (λ (i : InstanceData). Ok (self_timed i)) (instance_said form) _ _ _ _
    c.in_err-instance.ensures)

pub returns : goal.returns
returns g c =
    reads_then (λ (i : InstanceData). Ok (self_timed i))
    (instance_said (form_of c.args.form.now)) _ _ _ _ _ c.in_ok-instance.ensures
    (ap Ok (sym c.self_timed.ensures))
