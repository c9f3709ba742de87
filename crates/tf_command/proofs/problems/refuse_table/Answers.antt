use Rattle.tf_command.proofs.Saying.{says_explained}
use Rattle.tf_command.proofs.problems.refuse_table.Goals as goal

pub returns-clause-line : goal.returns-clause-line
returns-clause-line g c = says_explained c.report-status.ensures.line c.tell.ensures
