use Rattle.std.proofs.Common.{◌≡◌, ℕ, List, ℤ, pos, SFits, to_z, of_z, refl, sym, ap, ◌∙◌, subst, arith, rules}
use Rattle.std.specs.Int.{w128}
use Rattle.std.proofs.lemmas.Int.{to_z-of_z}
use Rattle.tf_posed.specs.ProblemData.{problem_release}
use Rattle.tf_posed.specs.ProblemCost.{IsLowerBound}
use Rattle.tf_problem.specs.Shortest.{shortest_value}
use Rattle.tf_bound.specs.Optimal.{IsMinimum}
use Rattle.tf_bound.proofs.Orders.{falls-none}
use Rattle.tf_bound.proofs.Sound.{sound}
use Rattle.tf_bound.proofs.shortest.shortest_bound.Goals as goal

pub shortest_sum-requires-clause-order : goal.shortest_sum-requires-clause-order
shortest_sum-requires-clause-order g c =
    falls-none (problem_release c.args.task.now) 0 c.args.jobs.now c.in_default.ensures

pub returns-clause-bound : goal.returns-clause-bound
returns-clause-bound g c =
    let k = c.args.task.now in
    let jobs : List ℕ = c.args.jobs.now in
    let kind = c.if-not-takes_shortest.ensures in
    let told = c.in_ok-judge_list.ensures in
    let fits : SFits w128 c.from.result = search rules in
    let whole : c.in_ok-total.total ≡ shortest_value k jobs =
    omega (arith, c.in_ok-total.ensures, c.if-total.false) in
    let value : to_z w128 (of_z w128 c.from.result) ≡ pos (shortest_value k jobs) =
    to_z-of_z w128 c.from.result fits ∙ c.from.ensures ∙ ap pos whole in
    subst (λ (b : ℤ). IsLowerBound k b) (sym value)
    (c.shortest_law.ensures k (sound k c.judge_list.ensures.sized) (kind.single refl) (kind.goal refl)
    jobs told.distinct told.known (falls-none (problem_release k) 0 jobs c.in_default.ensures))

pub returns-clause-best : goal.returns-clause-best
returns-clause-best g c =
    let k = c.args.task.now in
    let jobs : List ℕ = c.args.jobs.now in
    let kind = c.if-not-takes_shortest.ensures in
    let fits : SFits w128 c.from.result = search rules in
    let whole : c.in_ok-total.total ≡ shortest_value k jobs =
    omega (arith, c.in_ok-total.ensures, c.if-total.false) in
    let value : to_z w128 (of_z w128 c.from.result) ≡ pos (shortest_value k jobs) =
    to_z-of_z w128 c.from.result fits ∙ c.from.ensures ∙ ap pos whole in
    λ these. subst (λ (b : ℤ). IsMinimum k b) (sym value)
    (c.shortest_best_law.ensures k (sound k c.judge_list.ensures.sized) (kind.single refl)
    (kind.goal refl) these.prmp these.free.no_prec these.free.no_prmu these.free.may_wait jobs
    these.free.all (falls-none (problem_release k) 0 jobs c.in_default.ensures))
