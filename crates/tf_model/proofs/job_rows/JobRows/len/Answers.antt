use Rattle.std.proofs.Common.{rules, ◌∙◌, sym}
use Rattle.tf_model.proofs.JobRows.{rows_length}
use Rattle.tf_model.proofs.job_rows.JobRows.len.Goals as goal

pub returns : goal.returns
returns g c = (search rules) ∙ sym (rows_length c.args.self.now)
