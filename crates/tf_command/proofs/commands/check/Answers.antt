use Rattle.std.proofs.Common.{Global, subst}
use Rattle.tf_text.specs.Counted.{inner_of, use_of}
use Rattle.tf_engine.specs.RequestData.{RequestData}
use Rattle.tf_engine.specs.Runs.{IsOutcome}
use Rattle.tf_engine.specs.Checking.{check_run}
use Rattle.tf_command.specs.Recorded.{bytes_left}
use Rattle.tf_command.proofs.Saying.{says_explained, says_more}
use Rattle.tf_command.proofs.Wanting.{idle, texts_for, wants}
use Rattle.tf_command.proofs.commands.check.Goals as goal

pub returns-in_default : goal.returns-in_default
returns-in_default g c =
    wants (idle _ _ _ (texts_for (bytes_left g.R.Read.remaining (inner_of c.args.instance.now))
    (bytes_left g.S.Read.remaining (inner_of c.args.answer.now))))
    c.say_memory.ensures.status c.say_memory.ensures.line

pub returns : goal.returns
returns g c = record {
  run = c.run_check-run.result;
  outcome = subst (λ (r : RequestData). IsOutcome {A = Global}
      (check_run r
      (use_of (bytes_left g.R.Read.remaining) c.args.instance.now c.run_check-run.new.instance)
      (use_of (bytes_left g.S.Read.remaining) c.args.answer.now c.run_check-run.new.answer))
      (use_of g.W.Write.contents c.args.console.now.writer c.run_check-run.new.writer)
      c.run_check-run.result)
      c.in-Ok.ensures c.run_check-run.ensures.outcome;
  ends = c.end_run-status.ensures.status;
  said = says_explained c.end_run-status.ensures.line
      (says_more c.tell_checked.ensures c.tell_bound.ensures);
}
