use Rattle.std.proofs.Common.{inl, inr}
use Rattle.tf_engine.proofs.Devices.{instance_later}
use Rattle.tf_engine.proofs.Ending.{unread, stopped, wanting}
use Rattle.tf_trace.proofs.run_trace.trace_output.Goals as goal

pub returns-in_err-asked : goal.returns-in_err-asked
returns-in_err-asked g c =
    let had = c.in_err-asked.ensures in
    unread c.in_err-asked.field-0.0 had.text had.is_all (λ refused h. inl h) (λ failed. failed)
    had.given had.reader c.from_residual.ensures.1

pub returns-in_err-answer : goal.returns-in_err-answer
returns-in_err-answer g c =
    let had = c.in_ok-asked.ensures in
    stopped c.in_err-answer.field-0.0 had.text had.is_all
    (λ refused no. inr (no.0, no.1, record { task = _; meant = had.given.meant; cycle = no.2 }))
    c.in_err-answer.ensures.best (instance_later had.reader _)
    c.from_residual-in_err-answer.ensures.1

pub returns-in_err-text : goal.returns-in_err-text
returns-in_err-text g c =
    let had = c.in_ok-asked.ensures in
    wanting had.text had.is_all (instance_later had.reader _)
    c.from_residual-in_err-text.ensures.1

pub returns : goal.returns
returns g c =
    let had = c.in_ok-asked.ensures in
    record {
      texts = had.text;
      are_all = had.is_all;
      given = record {
        task = _;
        meant = had.given.meant;
        answer = _;
        accepted = c.in_ok-answer.ensures.accepted;
        best = c.in_ok-answer.ensures.best;
        written = c.in_ok-text.ensures;
      };
      readers = had.reader;
    }
