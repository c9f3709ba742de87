use Rattle.std.proofs.Common.{◌≡◌, ℕ, ◌+◌, ◌*◌, ◌≤◌, length, max, ap, ◌∙◌, arith}
use Rattle.tf_bound.specs.RowSums.{late_steps}
use Rattle.tf_bound.specs.Visits.{visit_end, visit_price}
use Rattle.tf_bound.proofs.RowSums.{one_more}
use Rattle.tf_bound.proofs.Visits.{visits-least, visit-rises, best_more}
use Rattle.tf_bound.proofs.machine_prices.cheapest_visit.Goals as goal

pub price_at-best-requires-clause-small : goal.price_at-best-requires-clause-small
price_at-best-requires-clause-small c =
    let v = c.args.visit in
    omega (
      arith,
      c.requires.small,
      ap (λ s. v.slope * late_steps v.by_unit v.due (visit_end v.time v.tail v.earliest s))
          c.max-last.ensures,
    )

-- an earlier start is no later than the last one
pub price_at-requires-clause-small : goal.price_at-requires-clause-small
price_at-requires-clause-small c =
    let v = c.args.visit in
    omega (
      arith,
      c.requires.small,
      visit-rises v.slope v.by_unit v.due v.time v.tail v.earliest c.loop-start.start
          (max v.head (length c.args.prices.now)) (omega (arith, c.loop-start-test.true, c.max-last.ensures)),
    )

pub loop-start-init : goal.loop-start-init
loop-start-init c =
    let v = c.args.visit in
    let P : ℕ → ℕ =
    visit_price c.args.prices.now v.time v.tail v.earliest v.by_unit v.slope v.due in
    let last : c.max-last.result ≡ max v.head (length c.args.prices.now) = c.max-last.ensures in
    record {
      so_far = λ s low high. absurd (omega (arith, low, high));
      last = omega (arith, c.price_at-best.ensures.value, ap P last);
      reached = (
        max v.head (length c.args.prices.now),
        omega arith,
        omega arith,
        c.price_at-best.ensures.value ∙ ap P last,
      );
      small = c.price_at-best.ensures.small;
    }

pub loop-start-preserved : goal.loop-start-preserved
loop-start-preserved c =
    let v = c.args.visit in
    let prices = c.args.prices.now in
    let P : ℕ → ℕ = visit_price prices v.time v.tail v.earliest v.by_unit v.slope v.due in
    let start : ℕ = c.loop-start.start in
    let old = c.loop-start.invariant in
    let here : ℕ = c.price_at.result in
    record {
      so_far = one_more P v.head start c.loop-start.best c.min-best.result here old.so_far
          (omega (arith, c.min-best.ensures)) (omega (arith, c.min-best.ensures))
          c.price_at.ensures.value;
      last = omega (arith, c.min-best.ensures, old.last);
      reached = best_more P v.head (max v.head (length prices)) start c.loop-start.best
          c.min-best.result here c.min-best.ensures c.price_at.ensures.value
          (omega (arith, c.loop-start.auto.start))
          (omega (arith, c.loop-start-test.true, c.max-last.ensures)) old.reached;
      small = omega (arith, c.min-best.ensures, old.small);
    }

pub returns-clause-value : goal.returns-clause-value
returns-clause-value c =
    let v = c.args.visit in
    let prices = c.args.prices.now in
    let reached = c.loop-start.invariant.reached in
    visits-least (visit_price prices v.time v.tail v.earliest v.by_unit v.slope v.due) v.head
    (length prices) (max v.head (length prices)) c.loop-start.best c.loop-start.start (omega arith)
    c.loop-start.invariant.so_far (omega (arith, c.loop-start-test.false, c.max-last.ensures))
    c.loop-start.invariant.last reached.0 reached.1 reached.2 reached.3

pub returns-clause-small : goal.returns-clause-small
returns-clause-small c = c.loop-start.invariant.small
