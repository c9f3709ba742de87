use Rattle.std.proofs.Common.{◌≡◌, ℤ, SFits, to_z, of_z, Option, IfSome, sym, subst, rules}
use Rattle.std.specs.Int.{w128}
use Rattle.std.proofs.lemmas.Int.{to_z-of_z}
use Rattle.tf_posed.specs.ProblemData.{ProblemData}
use Rattle.tf_posed.specs.ProblemCost.{IsLowerBound}
use Rattle.tf_bound.proofs.alone.alone_value.Goals as goal

pub returns-in-Some-clause-bound : goal.returns-in-Some-clause-bound
returns-in-Some-clause-bound g c =
    let k = c.args.task.now in
    let fits : SFits w128 c.capped_cost.result = search rules in
    let value : to_z w128 (of_z w128 c.capped_cost.result) ≡ c.capped_cost.result =
    to_z-of_z w128 c.capped_cost.result fits in
    let serves = subst (λ (o : Option ProblemData). IfSome o
    (λ other. (b : ℤ) → IsLowerBound other b → IsLowerBound k b)) c.in-Some.is
    c.in_ok-pushed.ensures.bound in
    subst (λ (b : ℤ). IsLowerBound k b) (sym value)
    (serves c.capped_cost.result c.capped_cost.ensures.bound)
