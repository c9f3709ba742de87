use Rattle.std.proofs.Common.{rules, ◌≡◌, ℕ, ◌+◌, ap, arith}
use Rattle.tf_model.proofs.Ranges.{sum_by-range_more}
use Rattle.tf_problem.specs.Split.{counted}
use Rattle.tf_bound.specs.Split.{marked}
use Rattle.tf_bound.proofs.split.work.Goals as goal

pub loop-k-preserved : goal.loop-k-preserved
loop-k-preserved g c =
    let k = c.args.task.now in
    let pair = c.args.pair in
    let its : ℕ → ℕ = counted k pair.first pair.second (marked c.args.marks.now) in
    let x : ℕ = c.at.result in
    let next : x ≡ 1 + c.loop-k.k = omega (arith, c.at.ensures) in
    let at : c.counted.result ≡ its x = search rules in
    record {
      value = omega (
        arith,
        c.loop-k.invariant.value,
        c.from-work.ensures,
        at,
        ap its next,
        sum_by-range_more its 1 c.loop-k.k,
      );
      small = omega (arith, c.loop-k.invariant.small, c.from-work.ensures, c.counted.ensures.small);
    }
