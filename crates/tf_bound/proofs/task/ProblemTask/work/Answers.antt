use Rattle.std.proofs.Common.{sum, ap, sym, ◌∙◌, arith}
use Rattle.tf_bound.proofs.Sound.{work_is}
use Rattle.tf_bound.proofs.Routes.{work_small}
use Rattle.tf_bound.proofs.task.ProblemTask.work.Goals as goal

pub total_of-requires : goal.total_of-requires
total_of-requires g c =
    omega (
      arith,
      ap sum c.times.ensures.value,
      work_small c.args.self.now c.times.ensures.sized c.args.job c.requires,
    )

pub returns-clause-value : goal.returns-clause-value
returns-clause-value g c =
    c.total_of.ensures ∙ ap sum c.times.ensures.value
    ∙ sym (work_is c.args.self.now c.times.ensures.sized c.args.job c.requires)

pub returns-clause-small : goal.returns-clause-small
returns-clause-small g c =
    omega (
      arith,
      c.total_of.ensures,
      ap sum c.times.ensures.value,
      work_small c.args.self.now c.times.ensures.sized c.args.job c.requires,
    )
