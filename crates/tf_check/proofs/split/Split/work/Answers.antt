use Rattle.std.proofs.Common.{◌≡◌, ◌+◌, ap, ◌∙◌, arith}
use Rattle.tf_check.specs.Sides.{counted}
use Rattle.tf_check.proofs.Sides.{counted_more, counted_limit}
use Rattle.tf_check.proofs.split.Split.work.Goals as goal

pub overflow_add-work : goal.overflow_add-work
overflow_add-work g c =
    let k = c.args.task.now in
    let side = c.args.self.now.side in
    let next : c.counted-work.result ≡ counted k side (c.loop-k.k + 1) = c.counted-work.ensures
    ∙ ap (counted k side) c.at.ensures in
    omega (
      arith,
      counted_more k side c.loop-k.work c.loop-k.k c.counted-work.result c.loop-k.invariant next,
      counted_limit k side (c.loop-k.k + 1) c.len-k-end.ensures.sound (omega arith),
    )

pub loop-k-preserved : goal.loop-k-preserved
loop-k-preserved g c =
    let k = c.args.task.now in
    let side = c.args.self.now.side in
    counted_more k side c.loop-k.work c.loop-k.k c.counted-work.result c.loop-k.invariant
    (c.counted-work.ensures ∙ ap (counted k side) c.at.ensures)

pub returns-clause-small : goal.returns-clause-small
returns-clause-small g c = omega (
  arith,
  c.loop-k.invariant,
  counted_limit c.args.task.now c.args.self.now.side c.loop-k.k c.len-k-end.ensures.sound
      (omega arith),
)
