use Rattle.std.proofs.Common.{heap_items, arith}
use Rattle.tf_bound.proofs.Remaining.{all-none}
use Rattle.tf_bound.proofs.shortest.work_all.Goals as goal

pub returns : goal.returns
returns g c =
    omega (
      arith,
      c.loop-time.invariant.total,
      c.loop-time.invariant.small,
      all-none c.loop-time.now (heap_items c.loop-time.times) c.in_default.ensures.none,
    )
