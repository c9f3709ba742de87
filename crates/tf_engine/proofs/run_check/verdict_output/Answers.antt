use Rattle.std.proofs.Common.{refl}
use Rattle.tf_engine.specs.Faults.{Wants}
use Rattle.tf_engine.proofs.Devices.{both_later}
use Rattle.tf_engine.proofs.Ending.{unread, wanting}
use Rattle.tf_engine.proofs.run_check.verdict_output.Goals as goal

pub returns-in_err-asked : goal.returns-in_err-asked
returns-in_err-asked g c =
    let had = c.in_err-asked.ensures in
    unread c.in_err-asked.field-0.0 (had.text, had.answer_text)
    (had.is_all, had.is_whole_answer) (λ refused h. h) (λ failed. failed) had.given had.readers
    c.from_residual.ensures.1

pub returns-in_err-returned : goal.returns-in_err-returned
returns-in_err-returned g c =
    let had = c.in_ok-asked.ensures in
    wanting (had.text, had.answer_text) (had.is_all, had.is_whole_answer)
    (both_later had.readers Wants refl) c.from_residual-in_err-returned.ensures.1

pub returns-in_err-text : goal.returns-in_err-text
returns-in_err-text g c =
    let had = c.in_ok-asked.ensures in
    wanting (had.text, had.answer_text) (had.is_all, had.is_whole_answer)
    (both_later had.readers Wants refl) c.from_residual-in_err-text.ensures.1

pub returns : goal.returns
returns g c =
    let had = c.in_ok-asked.ensures in
    record {
      texts = (had.text, had.answer_text);
      are_all = (had.is_all, had.is_whole_answer);
      given = (
        record {
          task = _;
          meant = had.given.asked.meant;
          sheet = _;
          said = had.given.said;
          verdict = c.in_ok-returned.ensures;
        },
        c.in_ok-text.ensures,
      );
      readers = had.readers;
    }
