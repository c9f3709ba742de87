use Rattle.std.proofs.Common.{ℕ, ℤ, to_z, of_z, SFits, w64, map, fold, take, slice_index, sym, ap, ◌∙◌, rules}
use Rattle.std.specs.Int.{int_min}
use Rattle.std.proofs.lemmas.Int.{to_z-of_z}
use Rattle.tf_check.proofs.JobLists.{fold-map_more}
use Rattle.tf_bound.proofs.machine.least_rest.Invariants.{rest}
use Rattle.tf_bound.proofs.machine.least_rest.Goals as goal

pub loop-job-preserved : goal.loop-job-preserved
loop-job-preserved g c =
    let r : ℕ → ℤ = rest c.args.task.now c.args.machine in
    let xs = c.args.jobs.now in
    let i = c.loop-job.job-index in
    let x = c.job-item.result in
    let least_fits : SFits w64 c.min-least.result = search rules in
    let its_fits : SFits w64 c.rest_of.result = search rules in
    to_z-of_z w64 c.min-least.result least_fits ∙ c.min-least.ensures.value
    ∙ ap (λ z. int_min z (to_z w64 (of_z w64 c.rest_of.result))) c.loop-job.invariant
    ∙ ap (λ z. int_min (fold int_min (r (slice_index xs 0)) (map r (take i xs))) z)
    (to_z-of_z w64 c.rest_of.result its_fits ∙ c.rest_of.ensures)
    ∙ sym (fold-map_more int_min (r (slice_index xs 0)) r xs i x c.loop-job-test.true c.job-item.is)
