use Rattle.std.proofs.Common.{arith}
use Rattle.tf_bound.specs.ArcEnds.{given_at}
use Rattle.tf_bound.proofs.ArcSums.{over_ends}
use Rattle.tf_bound.proofs.arc_multipliers.add_arcs.Goals as goal

pub returns-clause-sums : goal.returns-clause-sums
returns-clause-sums c =
    λ j low. omega (
      arith,
      c.loop-i.invariant.each j low,
      over_ends (given_at c.args.is_after j) c.args.arcs.now c.args.l.now c.loop-i.i
          (omega (arith, c.loop-i-test.false, c.min-i-end.ensures)),
    )
