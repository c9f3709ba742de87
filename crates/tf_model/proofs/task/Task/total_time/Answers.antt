use Rattle.std.proofs.Common.{◌+◌, refl, arith}
use Rattle.tf_model.proofs.Totals.{total_more, total_within}
use Rattle.tf_model.proofs.task.Task.total_time.Goals as goal

pub overflow_add-total : goal.overflow_add-total
overflow_add-total g c =
    let k = c.args.self.now in
    let n = c.loop-k.k in
    omega (
      arith,
      total_more k c.loop-k.total n c.time-total.result c.loop-k.invariant
          (rw c.time-total.ensures.value (rw c.at.ensures refl)),
      total_within k c.len-k-end.ensures.sound (n + 1) (omega arith),
    )

pub loop-k-preserved : goal.loop-k-preserved
loop-k-preserved g c =
    total_more c.args.self.now c.loop-k.total c.loop-k.k c.time-total.result c.loop-k.invariant
    (rw c.time-total.ensures.value (rw c.at.ensures refl))
