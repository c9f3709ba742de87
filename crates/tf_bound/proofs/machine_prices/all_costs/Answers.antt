use Rattle.std.proofs.Common.{◌≡◌, false, ◌+◌, sym, ap, arith}
use Rattle.tf_model.proofs.Ranges.{sum_by-range_more}
use Rattle.tf_problem.specs.MachinePrices.{cheapest_from}
use Rattle.tf_posed.specs.ProblemData.{IsProblemJob}
use Rattle.tf_bound.specs.Faulted.{is_dear_from}
use Rattle.tf_bound.proofs.Firsts.{any_found, no_found, up_to_more}
use Rattle.tf_bound.proofs.machine_prices.all_costs.Goals as goal

pub returns-in_err-cost_of-clause-dear : goal.returns-in_err-cost_of-clause-dear
returns-in_err-cost_of-clause-dear g c =
    let k = c.args.task.now in
    let job : IsProblemJob k c.at.result = (
      omega (arith, c.at.ensures),
      omega (arith, c.at.ensures, c.loop-k-test.true, c.len-k-end.ensures.value),
    ) in
    rw c.from_residual.ensures
    (sym (any_found k (is_dear_from k c.args.machine c.args.q c.args.prices.now) c.at.result job
    (sym c.in_err-cost_of.ensures.dear)))

pub loop-k-preserved : goal.loop-k-preserved
loop-k-preserved g c =
    let k = c.args.task.now in
    let a = c.args.machine in
    let q = c.args.q in
    let prices = c.args.prices.now in
    let place : c.at.result ≡ 1 + c.loop-k.k = omega (arith, c.at.ensures) in
    record {
      none = up_to_more (λ j. is_dear_from k a q prices j ≡ false) c.loop-k.k c.at.result c.at.ensures
          c.loop-k.invariant.none (sym c.in_ok-cost_of.ensures.dear);
      value = omega (
        arith,
        c.loop-k.invariant.value,
        c.from.ensures,
        c.in_ok-cost_of.ensures.value,
        sum_by-range_more (cheapest_from k a q prices) 1 c.loop-k.k,
        ap (cheapest_from k a q prices) place,
      );
      small = omega (
        arith,
        c.loop-k.invariant.small,
        c.from.ensures,
        c.in_ok-cost_of.ensures.small,
      );
    }

pub returns-clause-dear : goal.returns-clause-dear
returns-clause-dear g c =
    sym (no_found c.args.task.now (is_dear_from c.args.task.now c.args.machine c.args.q c.args.prices.now)
    (λ j job. c.loop-k.invariant.none j job.0
    (omega (arith, job.1, c.len-k-end.ensures.value, c.loop-k-test.false))))
