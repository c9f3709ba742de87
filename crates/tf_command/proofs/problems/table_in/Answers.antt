use Rattle.tf_command.proofs.Listing.{in_table}
use Rattle.tf_command.proofs.problems.table_in.Goals as goal

pub returns-clause-table : goal.returns-clause-table
returns-clause-table g c =
    in_table g.row.A.Denot _ _ _ _ c.instance_read.result c.instance_read.ensures
