use Rattle.std.proofs.Common.{◌≡◌, ℕ, List, ℤ, pos, SFits, to_z, of_z, refl, sym, ap, ◌∙◌, subst, rules}
use Rattle.std.specs.Int.{w128}
use Rattle.std.proofs.lemmas.Int.{to_z-of_z}
use Rattle.tf_model.specs.Limit.{limit}
use Rattle.tf_posed.specs.ProblemData.{problem_time}
use Rattle.tf_posed.specs.ProblemCost.{IsLowerBound}
use Rattle.tf_problem.specs.Ranks.{rank_value}
use Rattle.tf_bound.specs.Optimal.{IsMinimum}
use Rattle.tf_bound.proofs.Orders.{rises-none}
use Rattle.tf_bound.proofs.Sound.{sound}
use Rattle.tf_bound.proofs.ranks.ranks_bound.Goals as goal

pub returns-in-Some-ranked_times-clause-bound : goal.returns-in-Some-ranked_times-clause-bound
returns-in-Some-ranked_times-clause-bound g c =
    let k = c.args.task.now in
    let jobs : List ℕ = c.args.jobs.now in
    let kind = c.if-not-takes_ranks.ensures in
    let told = c.in_ok-judge_list.ensures in
    let fits : SFits w128 c.from.result = search rules in
    let value : to_z w128 (of_z w128 c.from.result) ≡ pos (rank_value k jobs) =
    to_z-of_z w128 c.from.result fits ∙ c.from.ensures ∙ ap pos c.in-Some-ranked_times.ensures.value in
    subst (λ (b : ℤ). IsLowerBound k b) (sym value)
    (c.rank_law.ensures k (sound k c.judge_list.ensures.sized) (kind.alike refl) (kind.goal refl) jobs
    told.distinct told.known (rises-none (problem_time k) limit jobs c.in_default.ensures).1)

pub returns-in-Some-ranked_times-clause-best : goal.returns-in-Some-ranked_times-clause-best
returns-in-Some-ranked_times-clause-best g c =
    let k = c.args.task.now in
    let jobs : List ℕ = c.args.jobs.now in
    let kind = c.if-not-takes_ranks.ensures in
    let fits : SFits w128 c.from.result = search rules in
    let value : to_z w128 (of_z w128 c.from.result) ≡ pos (rank_value k jobs) =
    to_z-of_z w128 c.from.result fits ∙ c.from.ensures ∙ ap pos c.in-Some-ranked_times.ensures.value in
    λ these. subst (λ (b : ℤ). IsMinimum k b) (sym value)
    (c.rank_best_law.ensures k (sound k c.judge_list.ensures.sized) (kind.alike refl) (kind.goal refl)
    these.prmp these.no_release these.free.no_prec these.free.no_prmu these.free.may_wait jobs
    these.free.all (rises-none (problem_time k) limit jobs c.in_default.ensures).1)
