use Rattle.std.proofs.Common.{sym}
use Rattle.tf_read.proofs.JobsJudged.{machines_ok}
use Rattle.tf_read.proofs.job_table.below_heading.Goals as goal

pub returns-clause-count : goal.returns-clause-count
returns-clause-count c = machines_ok _ _ _ (sym c.in_ok-machines.ensures)
