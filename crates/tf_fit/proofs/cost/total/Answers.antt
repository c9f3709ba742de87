use Rattle.std.proofs.Common.{◌+◌, ◌≤◌, ℕ, length, ap, sym, ◌∙◌, arith}
use Rattle.std.proofs.lemmas.Int.{ints}
use Rattle.tf_schedule.specs.Lanes.{stop_in}
use Rattle.tf_fit.specs.CostBy.{sum_at}
use Rattle.tf_fit.proofs.Costs.{sum_at_more, sum_at_le}
use Rattle.tf_fit.proofs.cost.total.Goals as goal

pub returns-then-more-most : goal.returns-then-more-most
returns-then-more-most g c =
    let k = c.args.task.now in
    let at : ℕ → ℕ = stop_in c.args.jobs.now in
    let more = sum_at_more c.args.goal k at c.loop-k.k c.at-job.result c.stop.result c.at-job.ensures
    c.stop.ensures in
    let le : sum_at c.args.goal k at (c.loop-k.k + 1) ≤ sum_at c.args.goal k at (length k.jobs) =
    sum_at_le c.args.goal k at (c.loop-k.k + 1) (length k.jobs)
    (omega (arith, c.loop-k-test.true, c.len-k-end.ensures.value)) in
    omega (
      arith,
      ints,
      more,
      le,
      c.loop-k.invariant.value,
      c.penalty-more.ensures.value,
      c.if-more-most.true,
      c.loop-k.invariant.small,
    )

pub loop-k-preserved : goal.loop-k-preserved
loop-k-preserved g c =
    let k = c.args.task.now in
    let at : ℕ → ℕ = stop_in c.args.jobs.now in
    record {
      value = ap (λ s. s + c.penalty-more.result) c.loop-k.invariant.value
          ∙ ap (λ x. sum_at c.args.goal k at c.loop-k.k + x) c.penalty-more.ensures.value
          ∙ sym (sum_at_more c.args.goal k at c.loop-k.k c.at-job.result c.stop.result
          c.at-job.ensures c.stop.ensures);
      small = omega (arith, c.if-more-most.false, c.loop-k.invariant.small);
    }
