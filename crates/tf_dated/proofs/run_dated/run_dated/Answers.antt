use Rattle.tf_engine.specs.FormData.{form_of}
use Rattle.tf_engine.proofs.Unread.{err_is}
use Rattle.tf_dated.specs.Dated.{IsDatedRunOf}
use Rattle.tf_dated.specs.Leaving.{LeavesDated}
use Rattle.tf_dated.proofs.Dated.{unread, over}
use Rattle.tf_dated.proofs.Leaving.{unread_leaves, over_leaves}
use Rattle.tf_dated.proofs.run_dated.run_dated.Goals as goal

pub returns-in_err-instance-clause-outcome : goal.returns-in_err-instance-clause-outcome
returns-in_err-instance-clause-outcome g c =
    err_is (IsDatedRunOf c.args.asked.view.now (form_of c.args.asked.form.now) _ _ _)
    c.in_err-instance.field-0.0 _ c.from_residual.ensures.1
    (unread g.row.A.Denot _ c.args.asked.view.now (form_of c.args.asked.form.now) _ _ _ _ _ _
    c.in_err-instance.field-0.0 c.in_err-instance.ensures)

pub returns-clause-outcome : goal.returns-clause-outcome
returns-clause-outcome g c =
    over g.row.A.Denot _ c.args.asked.view.now (form_of c.args.asked.form.now) _ _ _ _ _ _ _
    c.in_ok-instance.ensures c.draw_beside.ensures.outcome

pub returns-in_err-instance-clause-devices : goal.returns-in_err-instance-clause-devices
returns-in_err-instance-clause-devices g c =
    err_is (LeavesDated _ _ _ _ _ _ _ _) c.in_err-instance.field-0.0 _ c.from_residual.ensures.1
    (unread_leaves g.row.A.Denot _ _ _ (form_of c.args.asked.form.now) _ _ _ _ _ _
    c.in_err-instance.field-0.0 c.in_err-instance.ensures)

pub returns-clause-devices : goal.returns-clause-devices
returns-clause-devices g c =
    over_leaves g.row.A.Denot _ _ _ (form_of c.args.asked.form.now) _ _ _ _ _ _ _ _ _
    c.in_ok-instance.ensures _ c.draw_beside.ensures.devices
