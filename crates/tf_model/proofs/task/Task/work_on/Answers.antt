use Rattle.std.proofs.Common.{◌+◌, ◌-◌, arith}
use Rattle.tf_model.proofs.Totals.{work_more, work_within}
use Rattle.tf_model.proofs.task.Task.work_on.Goals as goal

pub overflow_add-work : goal.overflow_add-work
overflow_add-work g c =
    let k = c.args.self.now in
    let i = c.args.machine - 1 in
    omega (
      arith,
      work_more k i c.loop-k.work c.loop-k.k c.at.result c.time_on-work.result c.loop-k.invariant
          c.at.ensures c.time_on-work.ensures,
      work_within k i (c.loop-k.k + 1) c.len-k-end.ensures.sound (omega arith),
    )

pub loop-k-preserved : goal.loop-k-preserved
loop-k-preserved g c =
    work_more c.args.self.now (c.args.machine - 1) c.loop-k.work c.loop-k.k c.at.result
    c.time_on-work.result c.loop-k.invariant c.at.ensures c.time_on-work.ensures

pub returns-clause-small : goal.returns-clause-small
returns-clause-small g c =
    omega (
      arith,
      c.loop-k.invariant,
      work_within c.args.self.now (c.args.machine - 1) c.loop-k.k c.len-k-end.ensures.sound
          (omega arith),
    )
