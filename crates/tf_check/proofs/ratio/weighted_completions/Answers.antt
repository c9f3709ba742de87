use Rattle.std.proofs.Common.{◌+◌, ap, subst, sym, ◌∙◌, arith}
use Rattle.tf_model.specs.SchedulingTask.{JobData, IsJob}
use Rattle.tf_check.proofs.RatioOrder.{in_known, in_value_within, summed_in_fits}
use Rattle.tf_check.proofs.ratio.weighted_completions.Goals as goal

pub job-row-requires : goal.job-row-requires
job-row-requires g c =
    subst (IsJob c.args.task.now) (sym c.job-item.is)
    (in_known c.args.task.now c.args.jobs.now c.requires.by_ratio c.loop-job.job-index
    c.job-item.result c.loop-job-test.true)

pub overflow_add-completion : goal.overflow_add-completion
overflow_add-completion g c =
    omega (
      arith,
      (summed_in_fits c.args.task.now c.args.jobs.now c.loop-job.job-index c.loop-job.completion
          c.loop-job.value c.job-item.result c.row.inside.weight c.time-completion.result
          c.requires.by_ratio c.requires.sound c.requires.sum c.loop-job-test.true c.job-item.is
          c.loop-job.invariant (ap (λ (r : JobData). r.weight) (c.row.view_is ∙ c.job-row.ensures.value))
          (c.time-completion.ensures ∙ ap (λ (r : JobData). r.first + r.second) c.job-row.ensures.value)).0,
    )

pub overflow_mul-value : goal.overflow_mul-value
overflow_mul-value g c =
    omega (
      arith,
      (summed_in_fits c.args.task.now c.args.jobs.now c.loop-job.job-index c.loop-job.completion
          c.loop-job.value c.job-item.result c.row.inside.weight c.time-completion.result
          c.requires.by_ratio c.requires.sound c.requires.sum c.loop-job-test.true c.job-item.is
          c.loop-job.invariant (ap (λ (r : JobData). r.weight) (c.row.view_is ∙ c.job-row.ensures.value))
          (c.time-completion.ensures ∙ ap (λ (r : JobData). r.first + r.second) c.job-row.ensures.value)).1,
    )

pub overflow_add-value : goal.overflow_add-value
overflow_add-value g c =
    omega (
      arith,
      (summed_in_fits c.args.task.now c.args.jobs.now c.loop-job.job-index c.loop-job.completion
          c.loop-job.value c.job-item.result c.row.inside.weight c.time-completion.result
          c.requires.by_ratio c.requires.sound c.requires.sum c.loop-job-test.true c.job-item.is
          c.loop-job.invariant (ap (λ (r : JobData). r.weight) (c.row.view_is ∙ c.job-row.ensures.value))
          (c.time-completion.ensures ∙ ap (λ (r : JobData). r.first + r.second) c.job-row.ensures.value)).2,
    )

pub returns-clause-small : goal.returns-clause-small
returns-clause-small g c =
    omega (
      arith,
      c.loop-job.invariant.value,
      in_value_within c.args.task.now c.args.jobs.now c.requires.by_ratio c.requires.sound
          c.requires.sum,
    )
