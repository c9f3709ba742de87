use Rattle.std.proofs.Common.{inl, inr, sym}
use Rattle.tf_engine.proofs.Devices.{reader_later}
use Rattle.tf_engine.proofs.Ending.{unread, stopped, wanting}
use Rattle.tf_engine.proofs.Undrawn.{shown_of}
use Rattle.tf_picture.specs.Picture.{IsPicture}
use Rattle.tf_picture.proofs.run_picture.picture_output.Goals as goal

pub returns-in_err-sheet : goal.returns-in_err-sheet
returns-in_err-sheet g c =
    let had = c.in_err-sheet.ensures.read in
    unread c.in_err-sheet.field-0.0 had.text had.is_all (λ refused h. inl h) (λ failed. failed)
    had.given had.reader c.from_residual.ensures.1

pub returns-in_err-schedule : goal.returns-in_err-schedule
returns-in_err-schedule g c =
    let had = c.in_ok-sheet.ensures.read in
    stopped c.in_err-schedule.field-0.0 had.text had.is_all
    (λ refused first. inr (record { sheet = _; said = had.given; first = first }))
    c.in_err-schedule.ensures.refused (reader_later had.reader _)
    c.from_residual-in_err-schedule.ensures.1

pub returns-in_err-text : goal.returns-in_err-text
returns-in_err-text g c =
    let had = c.in_ok-sheet.ensures.read in
    wanting had.text had.is_all (reader_later had.reader _)
    c.from_residual-in_err-text.ensures.1

pub returns : goal.returns
returns g c =
    let had = c.in_ok-sheet.ensures.read in
    let is = c.in_ok-schedule.ensures in
    record {
      texts = had.text;
      are_all = had.is_all;
      given = shown_of (IsPicture c.args.view.now) had.text _ c.in_ok-sheet.sheet _ had.given
          is.kept is.schedule
          (c.in_ok-text.ensures c.in_ok-sheet.sheet (sym c.of-heading.ensures) is.kept);
      readers = had.reader;
    }
