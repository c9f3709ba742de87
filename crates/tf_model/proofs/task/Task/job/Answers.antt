-- A job's time is within the total, which the task's invariant bounds.
use Rattle.std.proofs.Common.{◌≡◌, ℕ, ◌+◌, ◌-◌, ◌≤◌, slice_index_or, ap, sym, subst, arith}
use Rattle.tf_model.specs.Limit.{limit}
use Rattle.tf_model.specs.SchedulingTask.{SchedulingTask, JobData, IsJob, no_job, time_of}
use Rattle.tf_model.specs.Sound.{IsSound}
use Rattle.tf_model.proofs.Costs.{term-le-all_jobs}
use Rattle.tf_model.proofs.task.Task.job.Goals as goal

within : (k now : SchedulingTask) → IsSound k → k ≡ now → (j place : ℕ) → IsJob now j → place ≡ j - 1
    → (row : JobData) → ((d : JobData) → slice_index_or k.jobs place d ≡ row) → row.first + row.second ≤ limit
within k now sound view j place h at row read =
    let job : IsJob k j = subst (λ z. IsJob z j) (sym view) h in
    omega (
      arith,
      sound.total,
      term-le-all_jobs k (time_of k) j job,
      ap (λ (d : JobData). d.first + d.second)
          (subst (λ p. slice_index_or k.jobs p no_job ≡ row) at (read no_job)),
    )

pub returns-clause-small : goal.returns-clause-small
returns-clause-small g c =
    within _ c.args.self.now c.self.invariant c.self.view_is _ _ c.requires c.place.ensures.value
    c.row.result c.row.ensures
