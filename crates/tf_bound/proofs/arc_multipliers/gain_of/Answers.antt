use Rattle.std.proofs.Common.{arith}
use Rattle.tf_problem.specs.ProblemBounds.{problem_work}
use Rattle.tf_bound.proofs.ArcSums.{over_ends}
use Rattle.tf_bound.proofs.arc_multipliers.gain_of.Goals as goal

pub returns : goal.returns
returns g c =
    let k = c.args.task.now in
    omega (
      arith,
      c.loop-i.invariant,
      over_ends (λ arc. problem_work k arc.1) c.asked_arcs-arcs.result.now c.args.l.now c.loop-i.i
          (omega (arith, c.loop-i-test.false, c.min-i-end.ensures)),
    )
