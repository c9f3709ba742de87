use Rattle.std.proofs.Common.{ℤ, sym, subst}
use Rattle.std.proofs.lemmas.Result.{IfOk-weaker}
use Rattle.tf_posed.specs.ProblemCost.{IsLowerBound}
use Rattle.tf_bound.proofs.Sound.{sound}
use Rattle.tf_bound.proofs.multipliers.multipliers_bound.Goals as goal

pub returns-clause-bound : goal.returns-clause-bound
returns-clause-bound g c =
    let k = c.args.task.now in
    IfOk-weaker c.value_of.result _ _
    (λ b is. subst (λ (z : ℤ). IsLowerBound k z) (sym is)
    (c.multiplier_law.ensures k (sound k c.judge_numbers.ensures.sized) c.in_ok-judge_numbers.ensures.goal
    c.args.machine c.in_ok-judge_numbers.ensures.machine c.args.v.now c.args.arcs.now c.args.q
    c.in_ok-judge_numbers.ensures.some
    (record {
      within = c.in_ok-judge_numbers.ensures.within;
      enough = c.in_ok-moved.ensures.enough;
    })))
    c.value_of.ensures.value
