use Rattle.std.proofs.Common.{sym, ◌∙◌, arith}
use Rattle.tf_check.specs.Bound.{reaches_delta}
use Rattle.tf_check.proofs.Sides.{any_found, no_found}
use Rattle.tf_check.proofs.split.Split.is_reached.Goals as goal

pub returns-then-reaches_delta : goal.returns-then-reaches_delta
returns-then-reaches_delta g c =
    let s = c.args.self.now in
    let k = c.args.task.now in
    sym (any_found k (reaches_delta k s.side s.delta s.first) c.at.result
    (omega (arith, c.at.ensures), omega (arith, c.at.ensures, c.len-k-end.ensures.value))
    (sym c.reaches_delta.ensures ∙ c.if-reaches_delta.true))

pub returns : goal.returns
returns g c =
    let s = c.args.self.now in
    let k = c.args.task.now in
    sym (no_found k (reaches_delta k s.side s.delta s.first)
    (λ i job. c.loop-k.invariant i job.0 (omega (arith, job.1))))
