use Rattle.std.proofs.Common.{◌≡◌, ◌-◌, ℕ, List, ℤ, pos, length, to_z, refl, sym, ap, ◌∙◌, subst, rules}
use Rattle.std.specs.Int.{w128}
use Rattle.tf_posed.specs.ProblemCost.{IsLowerBound}
use Rattle.tf_problem.specs.Kept.{due_time, kept_value}
use Rattle.tf_bound.specs.Optimal.{IsMinimum}
use Rattle.tf_bound.proofs.Orders.{falls-none}
use Rattle.tf_bound.proofs.Sound.{sound}
use Rattle.tf_bound.proofs.kept.kept_bound.Goals as goal

pub returns-clause-bound : goal.returns-clause-bound
returns-clause-bound g c =
    let k = c.args.task.now in
    let jobs : List ℕ = c.args.jobs.now in
    let kind = c.if-not-takes_kept.ensures in
    let told = c.in_ok-judge_list.ensures in
    let late : ℕ = length jobs - c.in_ok-kept.kept in
    let is : to_z w128 late ≡ pos late = search rules in
    let value : to_z w128 late ≡ pos (kept_value k jobs) =
    is ∙ ap (λ n. pos (length jobs - n)) c.in_ok-kept.ensures.value in
    subst (λ (b : ℤ). IsLowerBound k b) (sym value)
    (c.kept_law.ensures k (sound k c.judge_list.ensures.sized) (kind.alike refl) (kind.goal refl) jobs
    told.distinct told.known (falls-none (due_time k) 0 jobs c.in_default.ensures))

pub returns-clause-best : goal.returns-clause-best
returns-clause-best g c =
    let k = c.args.task.now in
    let jobs : List ℕ = c.args.jobs.now in
    let kind = c.if-not-takes_kept.ensures in
    let late : ℕ = length jobs - c.in_ok-kept.kept in
    let is : to_z w128 late ≡ pos late = search rules in
    let value : to_z w128 late ≡ pos (kept_value k jobs) =
    is ∙ ap (λ n. pos (length jobs - n)) c.in_ok-kept.ensures.value in
    λ these. subst (λ (b : ℤ). IsMinimum k b) (sym value)
    (c.kept_best_law.ensures k (sound k c.judge_list.ensures.sized) these.single (kind.goal refl)
    these.no_release these.free.no_prec these.free.no_prmu these.free.may_wait jobs these.free.all
    (falls-none (due_time k) 0 jobs c.in_default.ensures))
