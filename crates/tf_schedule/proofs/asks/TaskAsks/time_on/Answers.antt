use Rattle.std.proofs.Common.{sym, ap, ◌∙◌}
use Rattle.tf_model.specs.SchedulingTask.{JobData}
use Rattle.tf_schedule.proofs.Limited.{of_class, time_on_first, time_on_second}
use Rattle.tf_schedule.proofs.asks.TaskAsks.time_on.Goals as goal

pub job-row-requires : goal.job-row-requires
job-row-requires g c = of_class c.args.self.now c.args.job c.requires.job

pub returns-then-machine-eq0 : goal.returns-then-machine-eq0
returns-then-machine-eq0 g c =
    ap (λ (row : JobData). row.first) (c.row.view_is ∙ c.job-row.ensures.value)
    ∙ sym (time_on_first c.args.self.now c.args.job c.requires.job c.args.machine
    c.if-machine-eq0.true)

pub returns-else-machine-eq0 : goal.returns-else-machine-eq0
returns-else-machine-eq0 g c =
    ap (λ (row : JobData). row.second) (c.row.view_is ∙ c.job-row.ensures.value)
    ∙ sym (time_on_second c.args.self.now c.args.job c.requires.job c.args.machine
    c.requires.machine c.if-machine-eq0.false)
