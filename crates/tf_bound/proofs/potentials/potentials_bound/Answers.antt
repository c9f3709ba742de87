use Rattle.std.proofs.Common.{◌≡◌, ℤ, SFits, to_z, of_z, sym, ◌∙◌, subst, rules}
use Rattle.std.specs.Int.{w128}
use Rattle.std.proofs.lemmas.Int.{to_z-of_z}
use Rattle.tf_posed.specs.ProblemCost.{IsLowerBound}
use Rattle.tf_problem.specs.Potentials.{potentials_value}
use Rattle.tf_bound.proofs.NoWait.{timed, potentials}
use Rattle.tf_bound.proofs.Sound.{sound}
use Rattle.tf_bound.proofs.potentials.potentials_bound.Goals as goal

pub returns-clause-bound : goal.returns-clause-bound
returns-clause-bound g c =
    let k = c.args.task.now in
    let p = c.args.numbers.now in
    let told = c.in_ok-judge_potentials.ensures in
    let fits : SFits w128 c.sum_of.result = search rules in
    let value : to_z w128 (of_z w128 c.sum_of.result) ≡ potentials_value k p =
    to_z-of_z w128 c.sum_of.result fits ∙ c.sum_of.ensures in
    subst (λ (b : ℤ). IsLowerBound k b) (sym value)
    (c.potentials_law.ensures k (sound k told.sized) told.flow told.no_wait told.goal
    (timed k told.sized told.flow told.timed) p (potentials k p told.small))
