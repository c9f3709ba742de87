use Rattle.tf_text.specs.Counted.{inner_of}
use Rattle.tf_command.specs.Recorded.{bytes_left}
use Rattle.tf_command.proofs.Saying.{says_explained}
use Rattle.tf_command.proofs.Wanting.{idle, texts_for, wants}
use Rattle.tf_command.proofs.commands.evaluate.Goals as goal

pub returns-in_default : goal.returns-in_default
returns-in_default g c =
    let texts = texts_for (bytes_left g.R.Read.remaining (inner_of c.args.instance.now))
    (bytes_left g.S.Read.remaining (inner_of c.args.answer.now)) in
    wants (record { solved = λ _. idle _ _ _ texts; unsolved = λ _. idle _ _ _ texts })
    c.say_memory.ensures.status c.say_memory.ensures.line

pub returns : goal.returns
returns g c = record {
  run = c.rate_over-run.result;
  outcome = rw (← c.in-Ok.ensures) c.rate_over-run.ensures.outcome;
  ends = c.end_run-status.ensures.status;
  said = rw (← c.rate_over-run.ensures.unsaid)
      (says_explained c.end_run-status.ensures.line c.tell_evaluated.ensures);
}
