use Rattle.tf_command.proofs.Saying.{says_explained}
use Rattle.tf_command.proofs.reading.say_unopened.Goals as goal

pub returns-clause-line : goal.returns-clause-line
returns-clause-line g c = says_explained c.say_device-status.ensures.line c.tell.ensures
