use Rattle.std.proofs.Common.{inl, inr, refl}
use Rattle.tf_engine.specs.Faults.{Wants}
use Rattle.tf_engine.proofs.Devices.{both_later}
use Rattle.tf_engine.proofs.Ending.{unread, stopped, wanting}
use Rattle.tf_bounding.proofs.Cyclic.{cyclic_later}
use Rattle.tf_assess.proofs.run_assess.assessment_output.Goals as goal

pub returns-in_err-case : goal.returns-in_err-case
returns-in_err-case g c =
    let had = c.in_err-case.ensures in
    unread c.in_err-case.field-0.0 (had.text, had.answer_text)
    (had.is_all, had.is_whole_answer) (λ refused h. inl h) (λ failed. failed) had.given
    had.readers c.from_residual.ensures.1

pub returns-in_err-check_feasible : goal.returns-in_err-check_feasible
returns-in_err-check_feasible g c =
    let had = c.in_ok-case.ensures in
    let cyclic = c.in_err-check_feasible.ensures in
    stopped c.in_err-check_feasible.field-0.0 (had.text, had.answer_text)
    (had.is_all, had.is_whole_answer)
    (λ refused because. inr (rw had.given.said refl, (_, had.given.meant, because))) cyclic
    (both_later had.readers _ (cyclic_later _ _ cyclic))
    c.from_residual-in_err-check_feasible.ensures.1

pub returns-in_err-evaluation : goal.returns-in_err-evaluation
returns-in_err-evaluation g c =
    let had = c.in_ok-case.ensures in
    wanting (had.text, had.answer_text) (had.is_all, had.is_whole_answer)
    (both_later had.readers Wants refl) c.from_residual-in_err-evaluation.ensures.1

pub returns-in_err-text : goal.returns-in_err-text
returns-in_err-text g c =
    let had = c.in_ok-case.ensures in
    wanting (had.text, had.answer_text) (had.is_all, had.is_whole_answer)
    (both_later had.readers Wants refl) c.from_residual-in_err-text.ensures.1

pub returns : goal.returns
returns g c =
    let had = c.in_ok-case.ensures in
    record {
      texts = (had.text, had.answer_text);
      are_all = (had.is_all, had.is_whole_answer);
      given = (
        c.in_ok-evaluation.evaluation,
        record {
          task = _;
          meant = had.given.meant;
          feasible = c.in_ok-check_feasible.ensures;
          sheet = _;
          said = had.given.said;
          is = c.in_ok-evaluation.ensures;
          written = c.in_ok-text.ensures;
        },
        c.standing-returned.ensures,
      );
      readers = had.readers;
    }
