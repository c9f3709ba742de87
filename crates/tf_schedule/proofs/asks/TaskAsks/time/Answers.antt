use Rattle.std.proofs.Common.{sym, ap, ◌∙◌}
use Rattle.tf_model.specs.SchedulingTask.{JobData}
use Rattle.tf_schedule.proofs.Limited.{of_class, time_is}
use Rattle.tf_schedule.proofs.asks.TaskAsks.time.Goals as goal

pub job-requires : goal.job-requires
job-requires g c = of_class c.args.self.now c.args.job c.requires.job

pub returns : goal.returns
returns g c =
    ap (λ (row : JobData). row.first) (c.result.view_is ∙ c.job.ensures.value)
    ∙ sym (time_is c.args.self.now c.args.job c.requires.job)
