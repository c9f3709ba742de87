use Rattle.std.proofs.Common.{ℕ, ◌+◌, ◌*◌, ◌≤◌, length, max, ap, ◌∙◌, arith}
use Rattle.tf_model.specs.Limit.{limit}
use Rattle.tf_bound.proofs.RowPrices.{dear_by, cost_within}
use Rattle.tf_bound.proofs.row_prices.rows_cost.Goals as goal

pub returns-in_err-slope-clause-dear : goal.returns-in_err-slope-clause-dear
returns-in_err-slope-clause-dear g c =
    rw c.from_residual.ensures
    (c.in_err-slope.ensures.dear
    ∙ dear_by c.args.task.now c.args.q c.args.prices.now c.args.job c.requires.goal
    c.time-time.result c.max-last.result c.weight.result c.time-time.ensures.value
    (c.max-last.ensures ∙ ap (λ r. max r (length c.args.prices.now)) c.release-release.ensures.value)
    c.weight.ensures.value (omega (arith, c.if-last-time.false, c.time-time.ensures.small)))

pub returns-clause-dear : goal.returns-clause-dear
returns-clause-dear g c =
    c.in_ok-slope.ensures.dear
    ∙ dear_by c.args.task.now c.args.q c.args.prices.now c.args.job c.requires.goal
    c.time-time.result c.max-last.result c.weight.result c.time-time.ensures.value
    (c.max-last.ensures ∙ ap (λ r. max r (length c.args.prices.now)) c.release-release.ensures.value)
    c.weight.ensures.value (omega (arith, c.if-last-time.false, c.time-time.ensures.small))

pub returns-clause-small : goal.returns-clause-small
returns-clause-small g c =
    let slope : ℕ = c.in_ok-slope.slope in
    cost_within slope c.max-last.result c.time-time.result c.cheapest_row.result
    (omega (arith, c.requires.time, c.time-time.ensures.value)) c.in_ok-slope.ensures.small
    (omega (arith, c.cheapest_row.ensures.small, ap (λ n. slope * n) c.max-last.ensures))

pub overflow_add-result-2 : goal.overflow_add-result-2
overflow_add-result-2 g c =
    let slope : ℕ = c.in_ok-slope.slope in
    let small : slope * (c.time-time.result + 1) + 2 * c.cheapest_row.result ≤ 2 * limit =
    cost_within slope c.max-last.result c.time-time.result c.cheapest_row.result
    (omega (arith, c.requires.time, c.time-time.ensures.value)) c.in_ok-slope.ensures.small
    (omega (arith, c.cheapest_row.ensures.small, ap (λ n. slope * n) c.max-last.ensures)) in
    omega (arith, small)
