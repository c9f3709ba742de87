use Rattle.std.proofs.Common.{ℕ, ℤ, to_z, of_z, SFits, w64, map, fold, take, slice_index, sym, ap, ◌∙◌, rules}
use Rattle.std.specs.Int.{int_max}
use Rattle.std.proofs.lemmas.Int.{to_z-of_z}
use Rattle.tf_check.proofs.JobLists.{fold-map_more}
use Rattle.tf_posed.specs.ProblemData.{problem_due}
use Rattle.tf_bound.proofs.alike.greatest_due.Goals as goal

pub loop-job-preserved : goal.loop-job-preserved
loop-job-preserved g c =
    let r : ℕ → ℤ = problem_due c.args.task.now in
    let xs = c.args.jobs.now in
    let i = c.loop-job.job-index in
    let x = c.job-item.result in
    let greatest_fits : SFits w64 c.max-greatest.result = search rules in
    let its_fits : SFits w64 c.due.result = search rules in
    to_z-of_z w64 c.max-greatest.result greatest_fits ∙ c.max-greatest.ensures.value
    ∙ ap (λ z. int_max z (to_z w64 (of_z w64 c.due.result))) c.loop-job.invariant
    ∙ ap (λ z. int_max (fold int_max (r (slice_index xs 0)) (map r (take i xs))) z)
    (to_z-of_z w64 c.due.result its_fits ∙ c.due.ensures.value)
    ∙ sym (fold-map_more int_max (r (slice_index xs 0)) r xs i x c.loop-job-test.true c.job-item.is)
