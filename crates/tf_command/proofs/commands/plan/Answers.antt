use Rattle.std.proofs.Common.{Err, refl}
use Rattle.tf_text.specs.Counted.{inner_of}
use Rattle.tf_engine.specs.declared.fault.RunFault.TheVariants.{OutOfMemory}
use Rattle.tf_engine.proofs.Unread.{text_for}
use Rattle.tf_command.specs.Recorded.{bytes_left}
use Rattle.tf_command.proofs.Saying.{says_explained}
use Rattle.tf_command.proofs.Wanting.{idle, wants}
use Rattle.tf_command.proofs.commands.plan.Goals as goal

pub returns-in_default : goal.returns-in_default
returns-in_default g c =
    let text = text_for (bytes_left g.R.Read.remaining (inner_of c.args.instance.now)) in
    wants (record {
      solved = λ _. (Err OutOfMemory, idle _ _ _ text, refl);
      unsolved = λ _. idle _ _ _ text;
    })
    c.say_memory.ensures.status c.say_memory.ensures.line

pub returns : goal.returns
returns g c = record {
  run = c.plan_over-run.result;
  outcome = rw (← c.in-Ok.ensures) c.plan_over-run.ensures.outcome;
  ends = c.end_run-status.ensures.status;
  said = rw (← c.plan_over-run.ensures.unsaid)
      (says_explained c.end_run-status.ensures.line c.tell_planned.ensures);
}
