use Rattle.std.proofs.Common.{not, sym, ap, ◌∙◌, arith}
use Rattle.tf_check.specs.Bound.{keeps_side}
use Rattle.tf_check.proofs.Sides.{first_found, none_found}
use Rattle.tf_check.proofs.split.Split.first_off.Goals as goal

pub returns-then-not-keeps_side : goal.returns-then-not-keeps_side
returns-then-not-keeps_side g c =
    let s = c.args.self.now in
    let k = c.args.task.now in
    let j = c.at-job.result in
    sym (first_found k (λ i. not (keeps_side k s.side s.delta s.first i)) j (
      omega (arith, c.at-job.ensures),
      omega (arith, c.at-job.ensures, c.len-k-end.ensures.value),
    )
    (λ i low high. ap not (c.loop-k.invariant i low (omega (arith, c.at-job.ensures))))
    (ap not (sym c.keeps_side.ensures ∙ c.if-not-keeps_side.true)))

pub returns : goal.returns
returns g c =
    let s = c.args.self.now in
    let k = c.args.task.now in
    sym (none_found k (λ i. not (keeps_side k s.side s.delta s.first i))
    (λ i job. ap not (c.loop-k.invariant i job.0 (omega (arith, job.1)))))
