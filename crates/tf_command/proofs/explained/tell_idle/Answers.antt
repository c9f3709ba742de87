use Rattle.tf_command.proofs.Saying.{says_more}
use Rattle.tf_command.proofs.explained.tell_idle.Goals as goal

pub returns : goal.returns
returns g c =
    says_more (says_more c.tell_option.ensures c.tell_option-2.ensures)
    c.tell_option-3.ensures
