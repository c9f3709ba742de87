use Rattle.std.proofs.Common.{◌+◌, ◌≤◌, ◌<◌, sum, ap, ◌∙◌, arith}
use Rattle.std.proofs.lemmas.Bool.Decides.{nat_tests}
use Rattle.std.proofs.lemmas.List.{length-set, take_all}
use Rattle.std.proofs.lemmas.List.Sums.{sum_by_more, sum_by_more_le}
use Rattle.tf_model.specs.Limit.{limit}
use Rattle.tf_bound.proofs.RowSums.{sums_more}
use Rattle.tf_bound.proofs.row_sums.sum_rows.Goals as goal

pub returns-then-prices-row-clause-small : goal.returns-then-prices-row-clause-small
returns-then-prices-row-clause-small c =
    let over : limit < sum c.args.prices.now =
    omega (
      arith,
      c.loop-row.invariant.total,
      c.loop-row.invariant.small,
      c.if-prices-row.true,
      sum_by_more_le (λ x. x) c.args.prices.now c.loop-row.row 0 c.loop-row-test.true,
    ) in
    grind (arith, nat_tests)

pub loop-row-preserved : goal.loop-row-preserved
loop-row-preserved c =
    let prices = c.args.prices.now in
    let old = c.loop-row.invariant in
    let next = sum_by_more (λ x. x) prices c.loop-row.row 0 c.loop-row-test.true in
    record {
      len = length-set c.loop-row.sums (c.loop-row.row + 1) _ ∙ old.len;
      total = omega (arith, old.total, next);
      small = omega (arith, old.small, c.if-prices-row.false);
      at = sums_more prices c.loop-row.sums c.loop-row.row _ c.loop-row-test.true old.len
          (omega (arith, old.total, next)) old.at;
    }

pub returns-clause-small : goal.returns-clause-small
returns-clause-small c =
    let within : sum c.args.prices.now ≤ limit =
    omega (
      arith,
      c.loop-row.invariant.total,
      c.loop-row.invariant.small,
      ap sum (take_all c.loop-row.row c.args.prices.now c.loop-row-test.false),
    ) in
    grind (arith, nat_tests)

pub returns-clause-sums : goal.returns-clause-sums
returns-clause-sums c = λ _. record {
  len = c.loop-row.invariant.len;
  at = λ t le. c.loop-row.invariant.at t (omega (arith, le, c.loop-row-test.false));
  small = omega (
    arith,
    c.loop-row.invariant.total,
    c.loop-row.invariant.small,
    ap sum (take_all c.loop-row.row c.args.prices.now c.loop-row-test.false),
  );
}
