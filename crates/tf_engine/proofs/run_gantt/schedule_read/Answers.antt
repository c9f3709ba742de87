use Rattle.std.proofs.Common.{ap, inl, inr, subst, sym}
use Rattle.tf_text.specs.Chart.{chart_text}
use Rattle.tf_engine.specs.Drawing.{IsChart, IsShown}
use Rattle.tf_engine.proofs.Devices.{reader_later}
use Rattle.tf_engine.proofs.Ending.{unread, stopped}
use Rattle.tf_engine.proofs.Undrawn.{chart_shown, shown_of}
use Rattle.tf_engine.proofs.run_gantt.schedule_read.Goals as goal

pub returns-in_err-sheet : goal.returns-in_err-sheet
returns-in_err-sheet g c columns =
    let had = c.in_err-sheet.ensures.read in
    unread c.in_err-sheet.field-0.0 had.text had.is_all (λ refused h. inl h) (λ failed. failed)
    had.given had.reader c.from_residual.ensures.1

pub returns-in_err-schedule : goal.returns-in_err-schedule
returns-in_err-schedule g c columns =
    let had = c.in_ok-sheet.ensures.read in
    stopped c.in_err-schedule.field-0.0 had.text had.is_all
    (λ refused first. inr (record { sheet = _; said = had.given; first = first }))
    c.in_err-schedule.ensures.refused (reader_later had.reader _)
    c.from_residual-in_err-schedule.ensures.1

pub returns : goal.returns
returns g c columns =
    let had = c.in_ok-sheet.ensures.read in
    let is = c.in_ok-schedule.ensures in
    record {
      texts = had.text;
      are_all = had.is_all;
      given = subst (λ m. IsShown (IsChart columns) had.text
          (chart_text c.in_ok-schedule.schedule m columns))
          (sym (ap (λ s. s.machines) c.sheet.view_is))
          (shown_of (IsChart columns) had.text _ c.in_ok-sheet.sheet c.in_ok-schedule.schedule
          had.given is.kept is.schedule
          (chart_shown columns c.in_ok-sheet.sheet c.in_ok-schedule.schedule is.kept is.schedule));
      readers = had.reader;
    }
