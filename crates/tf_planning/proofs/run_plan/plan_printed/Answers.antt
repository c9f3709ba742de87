use Rattle.std.proofs.Common.{inr}
use Rattle.tf_engine.proofs.Devices.{instance_later}
use Rattle.tf_engine.proofs.Ending.{unread, passed}
use Rattle.tf_planning.proofs.Running.{untasked}
use Rattle.tf_planning.proofs.run_plan.plan_printed.Goals as goal

pub returns-in_err-task : goal.returns-in_err-task
returns-in_err-task g c =
    let had = c.in_err-task.ensures in
    unread c.in_err-task.field-0.0 had.text had.is_all (untasked c.args.request.now had.text)
    (λ failed. failed) had.given had.reader c.from_residual.ensures.1

pub returns : goal.returns
returns g c =
    let had = c.in_ok-task.ensures in
    passed had.text had.is_all (λ printed is. record { task = _; meant = had.given; is = is })
    (λ refused because. inr (_, had.given, because)) had.reader
    (λ s because. instance_later had.reader _) c.printed_for.ensures
