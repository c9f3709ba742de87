use Rattle.std.proofs.Common.{Global, subst}
use Rattle.tf_text.specs.Counted.{inner_of, use_of}
use Rattle.tf_engine.specs.RequestData.{RequestData}
use Rattle.tf_engine.specs.Runs.{IsOutcome}
use Rattle.tf_trace.specs.RunTracing.{trace_run}
use Rattle.tf_engine.proofs.Unread.{text_for}
use Rattle.tf_command.specs.Recorded.{bytes_left}
use Rattle.tf_command.proofs.Saying.{says_explained, says_more}
use Rattle.tf_command.proofs.Wanting.{idle, wants}
use Rattle.tf_command.proofs.commands.trace.Goals as goal

pub returns-in_default : goal.returns-in_default
returns-in_default g c =
    wants (idle _ _ _ (text_for (bytes_left g.R.Read.remaining (inner_of c.args.instance.now))))
    c.say_memory.ensures.status c.say_memory.ensures.line

pub returns : goal.returns
returns g c = record {
  run = c.run_trace-run.result;
  outcome = subst (λ (r : RequestData). IsOutcome {A = Global}
      (trace_run r
      (use_of (bytes_left g.R.Read.remaining) c.args.instance.now c.run_trace-run.new.reader))
      (use_of g.W.Write.contents c.args.console.now.writer c.run_trace-run.new.writer)
      c.run_trace-run.result)
      c.in-Ok.ensures c.run_trace-run.ensures.outcome;
  ends = c.end_run-status.ensures.status;
  said = says_explained c.end_run-status.ensures.line
      (says_more c.tell_solved.ensures c.tell_bound.ensures);
}
