use Rattle.std.proofs.Common.{Err, ap}
use Rattle.tf_read.specs.JobTable.{job_table}
use Rattle.tf_engine.specs.FormData.{InTable}
use Rattle.tf_engine.specs.Parts.{ReadsTo, instance_said, prepared_said, task_said}
use Rattle.tf_engine.proofs.ReadThrough.{reads_input, reads_on}
use Rattle.tf_engine.proofs.Unread.{err_is, too_long}
use Rattle.tf_engine.proofs.form_read.table_task_read.Goals as goal

pub returns-in_err-text : goal.returns-in_err-text
returns-in_err-text g c =
    err_is
    (ReadsTo (task_said InTable c.args.problem.now c.args.machines) _ _ _) _ _
    c.from_residual.ensures.1
    (reads_on (prepared_said c.args.problem.now c.args.machines)
    (instance_said InTable) _ _ _ _
    (reads_input _ g.row.A.Denot _ job_table _ _ _ c.in_err-text.ensures.counted
    c.in_err-text.field-0.0
    (λ e. c.in_err-text.ensures.too_long (ap Err e)) c.in_err-text.ensures.device
    (too_long InTable) c.in_err-text.ensures.pulled))
