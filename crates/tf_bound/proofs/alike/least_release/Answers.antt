use Rattle.std.proofs.Common.{ℕ, map, min, fold, take, slice_index, sym, ap, ◌∙◌, arith}
use Rattle.tf_check.proofs.JobLists.{fold-map_more}
use Rattle.tf_posed.specs.ProblemData.{problem_release}
use Rattle.tf_bound.proofs.alike.least_release.Goals as goal

pub loop-job-preserved : goal.loop-job-preserved
loop-job-preserved g c =
    let r : ℕ → ℕ = problem_release c.args.task.now in
    let xs = c.args.jobs.now in
    let i = c.loop-job.job-index in
    let x = c.job-item.result in
    record {
      least = c.min-least.ensures
          ∙ ap (λ z. min z c.release.result) c.loop-job.invariant.least
          ∙ ap (min (fold min (r (slice_index xs 0)) (map r (take i xs)))) c.release.ensures.value
          ∙ sym (fold-map_more min (r (slice_index xs 0)) r xs i x c.loop-job-test.true
          c.job-item.is);
      small = omega (arith, c.min-least.ensures, c.loop-job.invariant.small);
    }
