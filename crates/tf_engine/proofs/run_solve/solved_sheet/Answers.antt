use Rattle.std.proofs.Common.{inl, inr, rules}
use Rattle.tf_text.proofs.AnswerAgain.{lines_again}
use Rattle.tf_engine.proofs.Devices.{instance_later}
use Rattle.tf_engine.proofs.Ending.{stopped, unread, unsolved}
use Rattle.tf_engine.specs.Passed.{of_solve}
use Rattle.tf_engine.proofs.Readable.{sheet_readable}
use Rattle.tf_engine.proofs.run_solve.solved_sheet.Goals as goal

pub returns-in_err-asked : goal.returns-in_err-asked
returns-in_err-asked g c =
    let had = c.in_err-asked.ensures in
    unread c.in_err-asked.field-0.0 had.text had.is_all (λ refused h. inl h)
    (λ failed. failed) had.given had.reader c.from_residual.ensures.1

pub returns-in_err-answer : goal.returns-in_err-answer
returns-in_err-answer g c =
    let had = c.in_ok-asked.ensures in
    let fault = c.in_err-answer.field-0.0 in
    stopped (of_solve fault) had.text had.is_all
    (λ refused no. inr (no.0, no.1, record { task = _; meant = had.given.meant; cycle = no.2 }))
    (unsolved _ fault c.in_err-answer.ensures.refused) (instance_later had.reader _)
    c.from_residual-in_err-answer.ensures.1

pub returns : goal.returns
returns g c =
    let had = c.in_ok-asked.ensures in
    let is = c.in_ok-answer.ensures in
    let request = c.args.request.now in
    record {
      texts = had.text;
      are_all = had.is_all;
      given = record {
        task = c.in_ok-asked.asked.task;
        meant = had.given.meant;
        solved = record {
          problem = had.given.problem;
          jobs = c.len.ensures.value;
          machines = c.machines.ensures.value;
          accepted = is.accepted;
          best = is.best;
          rule = is.rule;
          readable = lines_again request.layout _
              (sheet_readable request c.in_ok-asked.asked.task _ request.layout
              c.len.ensures.sound had.given.problem c.len.ensures.value c.machines.ensures.value
              is.accepted (search rules));
        };
      };
      readers = had.reader;
    }
