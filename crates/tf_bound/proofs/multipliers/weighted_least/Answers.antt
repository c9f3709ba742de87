use Rattle.std.proofs.Common.{ℕ, ◌+◌, ◌*◌, ◌≤◌, arith, mul-le-mul_right}
use Rattle.tf_check.specs.Ratio.{completions_from}
use Rattle.tf_problem.specs.ProblemBounds.{arcs_gain}
use Rattle.tf_bound.specs.Faulted.{all_counted, pairs_counted}
use Rattle.tf_bound.proofs.multipliers.weighted_least.Goals as goal

-- what the arcs gain is no more than all
gain_within : (n g s : ℕ) → 1 ≤ n → g ≤ s + n * g
gain_within n g s some =
    let le : 1 * g ≤ n * g = mul-le-mul_right g some in
    omega (arith, le)

pub returns-in_default : goal.returns-in_default
returns-in_default g c =
    let k = c.args.task.now in
    omega (
      arith,
      c.in_default.ensures,
      gain_within (all_counted k) (arcs_gain k c.args.l.now)
          (pairs_counted k * completions_from 0 c.args.jobs.now + c.args.waits)
          (omega (arith, c.all_counted-times.ensures.value, c.all_counted-times.ensures.some)),
    )
