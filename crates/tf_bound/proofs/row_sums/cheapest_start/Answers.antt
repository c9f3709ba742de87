use Rattle.std.proofs.Common.{◌≡◌, ℕ, ◌+◌, ◌≤◌, ap, sym, subst, ◌∙◌, ⊎_elim, arith, mul-le-mul_left}
use Rattle.std.proofs.lemmas.Bool.{cases_lt}
use Rattle.tf_bound.specs.declared.row_sums.Cheapest.{Cheapest}
use Rattle.tf_bound.specs.RowSums.{IsReached}
use Rattle.tf_bound.proofs.RowSums.{one_more, late_steps-rises, paid_at}
use Rattle.tf_bound.proofs.row_sums.cheapest_start.Goals as goal
use Rattle.tf_bound.proofs.row_sums.cheapest_start.Goals.{then-price-best, else-price-best}

-- an earlier start is no later than the last one
pub price_at-price-requires-clause-small : goal.price_at-price-requires-clause-small
price_at-price-requires-clause-small c =
    let job = c.args.job in
    let le : c.loop-start.start + job.time ≤ job.last + job.time =
    omega (arith, c.loop-start-test.true) in
    omega (
      arith,
      c.requires.small,
      mul-le-mul_left job.slope
          (late_steps-rises job.by_unit job.due (c.loop-start.start + job.time) (job.last + job.time) le),
    )

-- the last start is among those that were seen, or it is the last one
pub returns-clause-cheapest : goal.returns-clause-cheapest
returns-clause-cheapest c = λ s low high.
    let job = c.args.job in
    ⊎_elim
    (λ before. c.loop-start.invariant.so_far s low
    (omega (arith, before, c.loop-start-test.false)))
    (λ past.
    let same : job.last ≡ s = omega (arith, past, high) in
    omega (
      arith,
      c.loop-start.invariant.last,
      ap (paid_at c.args.prices.now job.time job.by_unit job.slope job.due) same,
    ))
    (cases_lt s job.last)

pub returns-clause-reached : goal.returns-clause-reached
returns-clause-reached c = c.loop-start.invariant.reached

pub returns-clause-small : goal.returns-clause-small
returns-clause-small c = c.loop-start.invariant.small

pub loop-start-init : goal.loop-start-init
loop-start-init c = record {
  so_far = λ s low high. absurd (omega arith);
  last = omega (arith, c.price_at.ensures.value);
  reached = record {
    released = c.requires.some;
    within = omega arith;
    paid = c.price_at.ensures.value;
  };
  small = c.price_at.ensures.small;
}

pub loop-start-preserved : goal.loop-start-preserved
loop-start-preserved c =
    let job = c.args.job in
    let prices = c.args.prices.now in
    let start : ℕ = c.loop-start.start in
    let old = c.loop-start.invariant in
    let here : ℕ = c.price_at-price.result in
    let new : ℕ = c.if-price-best.best.price in
    let facts : (new ≤ c.loop-start.best.price) × (new ≤ here) =
    elim c.if-price-best.branch [
      | then-price-best w ↦ (
        omega (arith, ap (λ (x : Cheapest). x.price) w.best-is, w.if-price-best.true),
        omega (arith, ap (λ (x : Cheapest). x.price) w.best-is),
      )
      | else-price-best w ↦ (
        omega (arith, ap (λ (x : Cheapest). x.price) w.best-is),
        omega (arith, ap (λ (x : Cheapest). x.price) w.best-is, w.if-price-best.false),
      )
    ] in
    record {
      so_far = one_more (paid_at prices job.time job.by_unit job.slope job.due) job.release start
          c.loop-start.best.price new here old.so_far facts.0 facts.1
          c.price_at-price.ensures.value;
      last = omega (arith, facts.0, old.last);
      reached = elim c.if-price-best.branch [
        | then-price-best w ↦ record {
          released = omega (arith, ap (λ (x : Cheapest). x.start) w.best-is, c.loop-start.auto.start);
          within = omega (arith, ap (λ (x : Cheapest). x.start) w.best-is, c.loop-start-test.true);
          paid = ap (λ (x : Cheapest). x.price) w.best-is
              ∙ c.price_at-price.ensures.value
              ∙ ap (paid_at prices job.time job.by_unit job.slope job.due)
              (sym (ap (λ (x : Cheapest). x.start) w.best-is));
        }
        | else-price-best w ↦ subst
            (λ (x : Cheapest).
            IsReached prices (job.release, job.last) job.time job.by_unit job.slope job.due x.price
            x.start)
            (sym w.best-is) old.reached
      ];
      small = omega (arith, facts.0, old.small);
    }
