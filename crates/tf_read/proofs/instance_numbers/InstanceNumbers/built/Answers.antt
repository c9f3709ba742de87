use Rattle.std.proofs.Common.{sym, []}
use Rattle.tf_model.specs.InstanceData.{InstanceData}
use Rattle.tf_read.specs.InstanceNumbers.{numbered}
use Rattle.tf_read.proofs.instance_numbers.InstanceNumbers.built.Goals as goal

pub finish-requires : goal.finish-requires
finish-requires g c = (
  c.args.problem.now,
  c.args.machines,
  numbered c.self.inside.columns c.self.inside.jobs c.self.inside.machines,
  c.in_ok-give.ensures _ _ _ [] c.in_ok-builder.ensures,
  sym c.new-2.ensures.items,
  c.self.invariant.sound,
)

pub returns : goal.returns
returns g c =
    let i : InstanceData =
    numbered c.self.inside.columns c.self.inside.jobs c.self.inside.machines in
    rw (← c.self.view_is)
    (c.finish.ensures c.args.problem.now c.args.machines i
    (c.in_ok-give.ensures _ _ _ [] c.in_ok-builder.ensures) (sym c.new-2.ensures.items))
