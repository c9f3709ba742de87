use Rattle.std.proofs.Common.{ℤ, SFits, sym, subst, rules}
use Rattle.std.specs.Int.{w128}
use Rattle.std.proofs.lemmas.Int.{to_z-of_z}
use Rattle.tf_posed.specs.ProblemCost.{IsLowerBound}
use Rattle.tf_search.proofs.machine_search.window_on.Goals as goal

pub returns : goal.returns
returns g c =
    let fits : SFits w128 c.in_ok-value.value = search rules in
    subst (λ (b : ℤ). IsLowerBound c.args.task.now b) (sym (to_z-of_z w128 c.in_ok-value.value fits))
    c.in_ok-value.ensures.bound
