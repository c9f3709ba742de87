use Rattle.std.proofs.Common.{◌≡◌, false, ◌+◌, sym, ap, arith}
use Rattle.tf_model.proofs.Ranges.{sum_by-range_more}
use Rattle.tf_problem.specs.ProblemBounds.{rows_cost}
use Rattle.tf_posed.specs.ProblemData.{IsProblemJob}
use Rattle.tf_bound.specs.Faulted.{is_dear}
use Rattle.tf_bound.proofs.Firsts.{any_found, no_found, up_to_more}
use Rattle.tf_bound.proofs.Sound.{sound}
use Rattle.tf_bound.proofs.row_prices.all_rows_cost.Goals as goal

pub rows_cost-requires-clause-time : goal.rows_cost-requires-clause-time
rows_cost-requires-clause-time g c =
    let k = c.args.task.now in
    let job : IsProblemJob k c.at.result = (
      omega (arith, c.at.ensures),
      omega (arith, c.at.ensures, c.loop-k-test.true, c.len-k-end.ensures.value),
    ) in
    ((sound k c.len-k-end.ensures.sized).one_time c.requires.one_time c.at.result job).1

pub returns-in_err-rows_cost-clause-dear : goal.returns-in_err-rows_cost-clause-dear
returns-in_err-rows_cost-clause-dear g c =
    let k = c.args.task.now in
    let job : IsProblemJob k c.at.result = (
      omega (arith, c.at.ensures),
      omega (arith, c.at.ensures, c.loop-k-test.true, c.len-k-end.ensures.value),
    ) in
    rw c.from_residual.ensures
    (sym (any_found k (is_dear k c.args.q c.args.prices.now) c.at.result job
    (sym c.in_err-rows_cost.ensures.dear)))

pub loop-k-preserved : goal.loop-k-preserved
loop-k-preserved g c =
    let k = c.args.task.now in
    let q = c.args.q in
    let prices = c.args.prices.now in
    let place : c.at.result ≡ 1 + c.loop-k.k = omega (arith, c.at.ensures) in
    record {
      none = up_to_more (λ j. is_dear k q prices j ≡ false) c.loop-k.k c.at.result c.at.ensures
          c.loop-k.invariant.none (sym c.in_ok-rows_cost.ensures.dear);
      value = omega (
        arith,
        c.loop-k.invariant.value,
        c.from.ensures,
        c.in_ok-rows_cost.ensures.value,
        sum_by-range_more (rows_cost k q prices) 1 c.loop-k.k,
        ap (rows_cost k q prices) place,
      );
      small = omega (
        arith,
        c.loop-k.invariant.small,
        c.from.ensures,
        c.in_ok-rows_cost.ensures.small,
      );
    }

pub returns-clause-dear : goal.returns-clause-dear
returns-clause-dear g c =
    sym (no_found c.args.task.now (is_dear c.args.task.now c.args.q c.args.prices.now)
    (λ j job. c.loop-k.invariant.none j job.0
    (omega (arith, job.1, c.len-k-end.ensures.value, c.loop-k-test.false))))
