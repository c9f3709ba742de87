use Rattle.tf_command.proofs.Saying.{says_more}
use Rattle.tf_command.proofs.explained.Ended.tell_planned.Goals as goal

pub returns : goal.returns
returns g c = says_more c.tell_solved.ensures c.tell_text.ensures
