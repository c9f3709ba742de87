use Rattle.std.proofs.Common.{ℕ, map, min, fold, take, take_all, slice_index, sym, ap, ◌∙◌, arith}
use Rattle.tf_model.specs.SchedulingTask.{job_data}
use Rattle.tf_check.proofs.JobLists.{fold-map_more, least_number_is}
use Rattle.tf_check.proofs.set_numbers.least_release.Goals as goal

pub loop-job-preserved : goal.loop-job-preserved
loop-job-preserved g c =
    let k = c.args.task.now in
    let xs = c.args.jobs.now in
    let i = c.loop-job.job-index in
    let x = c.job-item.result in
    record {
      least = c.min-least.ensures
          ∙ ap (λ z. min z c.release.result) c.loop-job.invariant.least
          ∙ ap (λ z. min
          (fold min (job_data k (slice_index xs 0)).release
          (map (λ j. (job_data k j).release) (take i xs))) z) c.release.ensures
          ∙ sym (fold-map_more min (job_data k (slice_index xs 0)).release
          (λ j. (job_data k j).release) xs i x c.loop-job-test.true c.job-item.is);
      narrow = omega (arith, c.min-least.ensures, c.loop-job.invariant.narrow);
    }

pub returns-clause-value : goal.returns-clause-value
returns-clause-value g c =
    let xs = c.args.jobs.now in
    let releases : ℕ → ℕ = λ j. (job_data c.args.task.now j).release in
    c.loop-job.invariant.least
    ∙ ap (λ z. fold min (releases (slice_index xs 0)) (map releases z))
    (take_all c.loop-job.job-index xs c.loop-job-test.false)
    ∙ sym (least_number_is releases xs c.requires.some)
