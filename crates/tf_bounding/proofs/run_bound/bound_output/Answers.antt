use Rattle.std.proofs.Common.{inl, inr}
use Rattle.tf_engine.proofs.Devices.{instance_later}
use Rattle.tf_engine.proofs.Ending.{unread, stopped, wanting}
use Rattle.tf_bounding.proofs.run_bound.bound_output.Goals as goal

pub returns-in_err-task : goal.returns-in_err-task
returns-in_err-task g c =
    let had = c.in_err-task.ensures in
    unread c.in_err-task.field-0.0 had.text had.is_all (λ refused h. inl h) (λ failed. failed)
    had.given had.reader c.from_residual.ensures.1

pub returns-in_err-check_feasible : goal.returns-in_err-check_feasible
returns-in_err-check_feasible g c =
    let had = c.in_ok-task.ensures in
    stopped c.in_err-check_feasible.field-0.0 had.text had.is_all
    (λ refused because. inr (_, had.given, because)) c.in_err-check_feasible.ensures
    (instance_later had.reader _) c.from_residual-in_err-check_feasible.ensures.1

pub returns-in_err-found : goal.returns-in_err-found
returns-in_err-found g c =
    let had = c.in_ok-task.ensures in
    wanting had.text had.is_all (instance_later had.reader _)
    c.from_residual-in_err-found.ensures.1

pub returns-in_err-text : goal.returns-in_err-text
returns-in_err-text g c =
    let had = c.in_ok-task.ensures in
    wanting had.text had.is_all (instance_later had.reader _)
    c.from_residual-in_err-text.ensures.1

pub returns : goal.returns
returns g c =
    let had = c.in_ok-task.ensures in
    record {
      texts = had.text;
      are_all = had.is_all;
      given = (
        c.in_ok-found.found,
        record {
          task = _;
          meant = had.given;
          feasible = c.in_ok-check_feasible.ensures;
          is = c.in_ok-found.ensures;
          written = c.in_ok-text.ensures;
        },
      );
      readers = had.reader;
    }
