use Rattle.std.proofs.Common.{inl, inr, refl}
use Rattle.tf_engine.specs.Faults.{Wants}
use Rattle.tf_engine.specs.Passed.{of_solve}
use Rattle.tf_engine.proofs.Devices.{both_later}
use Rattle.tf_engine.proofs.Ending.{unread, stopped, unsolved, not_on_instance, wanting}
use Rattle.tf_evaluate.proofs.run_evaluate.evaluation_output.Goals as goal

pub returns-in_err-asked : goal.returns-in_err-asked
returns-in_err-asked g c =
    let had = c.in_err-asked.ensures in
    unread c.in_err-asked.field-0.0 (had.text, had.answer_text)
    (had.is_all, had.is_whole_answer) (λ refused h. inl h) (λ failed. failed) had.given
    had.readers c.from_residual.ensures.1

pub returns-in_err-evaluation : goal.returns-in_err-evaluation
returns-in_err-evaluation g c =
    let had = c.in_ok-asked.ensures in
    let fault = c.in_err-evaluation.field-0.0 in
    let no = unsolved _ fault c.in_err-evaluation.ensures.refused in
    stopped (of_solve fault) (had.text, had.answer_text) (had.is_all, had.is_whole_answer)
    (λ refused no. inr (
      no.0,
      no.1,
      rw had.given.said refl,
      record { task = _; meant = had.given.asked.meant; cycle = no.2 },
    ))
    no (both_later had.readers _ (not_on_instance (λ refused no. rw no.1 refl) _ no))
    c.from_residual-in_err-evaluation.ensures.1

pub returns-in_err-text : goal.returns-in_err-text
returns-in_err-text g c =
    let had = c.in_ok-asked.ensures in
    wanting (had.text, had.answer_text) (had.is_all, had.is_whole_answer)
    (both_later had.readers Wants refl) c.from_residual-in_err-text.ensures.1

pub returns : goal.returns
returns g c =
    let had = c.in_ok-asked.ensures in
    let is = c.in_ok-evaluation.ensures in
    record {
      texts = (had.text, had.answer_text);
      are_all = (had.is_all, had.is_whole_answer);
      given = (
        c.in_ok-evaluation.evaluation,
        record {
          problem = _;
          asked = had.given.asked.problem;
          task = _;
          meant = had.given.asked.meant;
          sheet = _;
          said = had.given.said;
          evaluation = is.evaluation;
          standing = is.standing.0;
          gap_is = is.standing.1;
          ends = is.arithmetic;
        },
        c.standing-returned.ensures,
        c.in_ok-text.ensures,
      );
      readers = had.readers;
    }
