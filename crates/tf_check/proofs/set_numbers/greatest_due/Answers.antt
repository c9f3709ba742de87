use Rattle.std.proofs.Common.{ℕ, ℤ, to_z, of_z, SFits, w64, map, fold, take, take_all, slice_index, sym, ap, ◌∙◌, rules}
use Rattle.std.specs.Int.{int_max}
use Rattle.std.proofs.lemmas.Int.{to_z-of_z}
use Rattle.tf_model.specs.SchedulingTask.{job_data}
use Rattle.tf_check.proofs.JobLists.{fold-map_more, greatest_is}
use Rattle.tf_check.proofs.set_numbers.greatest_due.Goals as goal

pub loop-job-preserved : goal.loop-job-preserved
loop-job-preserved g c =
    let k = c.args.task.now in
    let xs = c.args.jobs.now in
    let i = c.loop-job.job-index in
    let x = c.job-item.result in
    let due_fits : SFits w64 c.max-greatest.result = search rules in
    let its_fits : SFits w64 c.due.result = search rules in
    to_z-of_z w64 c.max-greatest.result due_fits ∙ c.max-greatest.ensures.value
    ∙ ap (λ z. int_max z (to_z w64 (of_z w64 c.due.result))) c.loop-job.invariant
    ∙ ap (λ z. int_max
    (fold int_max (job_data k (slice_index xs 0)).due
    (map (λ j. (job_data k j).due) (take i xs))) z)
    (to_z-of_z w64 c.due.result its_fits ∙ c.due.ensures)
    ∙ sym (fold-map_more int_max (job_data k (slice_index xs 0)).due (λ j. (job_data k j).due)
    xs i x c.loop-job-test.true c.job-item.is)

pub returns : goal.returns
returns g c =
    let xs = c.args.jobs.now in
    let dues : ℕ → ℤ = λ j. (job_data c.args.task.now j).due in
    c.loop-job.invariant
    ∙ ap (λ z. fold int_max (dues (slice_index xs 0)) (map dues z))
    (take_all c.loop-job.job-index xs c.loop-job-test.false)
    ∙ sym (greatest_is dues xs c.requires.some)
