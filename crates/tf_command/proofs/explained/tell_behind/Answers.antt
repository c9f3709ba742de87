use Rattle.tf_command.proofs.Saying.{says_more}
use Rattle.tf_command.proofs.explained.tell_behind.Goals as goal

pub returns : goal.returns
returns g c = says_more c.tell_idle.ensures c.tell.ensures
