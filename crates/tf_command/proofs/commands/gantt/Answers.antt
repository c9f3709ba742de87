use Rattle.tf_command.proofs.Saying.{says_explained}
use Rattle.tf_command.proofs.commands.gantt.Goals as goal

pub returns : goal.returns
returns g c = record {
  run = c.draw-run.result;
  outcome = c.draw-run.ensures;
  ends = c.end_run-status.ensures.status;
  said = says_explained c.end_run-status.ensures.line c.tell_drawn.ensures;
}
