use Rattle.std.proofs.Common.{◌≡◌, ℤ, length, SFits, to_z, of_z, refl, sym, ◌∙◌, subst, rules}
use Rattle.std.specs.Int.{w128}
use Rattle.std.proofs.lemmas.Int.{to_z-of_z}
use Rattle.tf_posed.specs.ProblemCost.{IsLowerBound}
use Rattle.tf_problem.specs.ProblemBounds.{window_value}
use Rattle.tf_bound.proofs.Sound.{sound}
use Rattle.tf_bound.proofs.Steps.{not_zero}
use Rattle.tf_bound.proofs.alike.window_bound.Goals as goal

pub returns-clause-bound : goal.returns-clause-bound
returns-clause-bound g c =
    let k = c.args.task.now in
    let fits : SFits w128 c.window_span.result = search rules in
    let value : to_z w128 (of_z w128 c.window_span.result) ≡ window_value k c.args.jobs.now =
    to_z-of_z w128 c.window_span.result fits ∙ c.window_span.ensures in
    let jobs = c.args.jobs.now in
    let kind = c.if-not-takes_windows.ensures in
    let told = c.in_ok-judge_list.ensures in
    subst (λ (b : ℤ). IsLowerBound k b) (sym value)
    (c.window_law.ensures k (sound k c.judge_list.ensures.sized) (kind.alike refl) (kind.goal refl) jobs
    told.distinct told.known (not_zero (length jobs) (sym c.if-is_empty.ensures)))
