use Rattle.std.proofs.Common.{◌≡◌, ℕ, ◌-◌, ◌*◌, length, max, ap, ⊎_elim, arith}
use Rattle.std.proofs.lemmas.Bool.{cases_lt}
use Rattle.tf_bound.specs.RowPrices.{priced_row}
use Rattle.tf_bound.proofs.RowPrices.{least_is}
use Rattle.tf_bound.proofs.row_prices.cheapest_row.Goals as goal

-- each row was looked at, or it is the last one
pub returns-clause-value : goal.returns-clause-value
returns-clause-value c =
    let prices = c.args.prices.now in
    let r : ℕ = c.args.release in
    let last : ℕ = max r (length prices) in
    let reached = c.loop-row.invariant.reached in
    least_is (priced_row prices c.args.slope c.args.time) r (length prices - r) c.loop-row.best
    (λ t low high.
    ⊎_elim
    (λ before.
    c.loop-row.invariant.so_far t low
    (omega (arith, before, c.loop-row-test.false, c.max-last.ensures)))
    (λ past.
    let same : last ≡ t = omega (arith, past, high) in
    omega (arith, c.loop-row.invariant.last, ap (λ n. c.args.slope * n) same))
    (cases_lt t last))
    reached.0 reached.1 (omega (arith, reached.2)) reached.3
