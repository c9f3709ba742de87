use Rattle.std.proofs.Common.{◌≡◌, ℤ, SFits, to_z, of_z, sym, subst, ◌∙◌, rules}
use Rattle.std.specs.Int.{w128}
use Rattle.std.proofs.lemmas.Int.{to_z-of_z}
use Rattle.tf_posed.specs.ProblemCost.{IsLowerBound}
use Rattle.tf_problem.specs.ProblemBounds.{one_job_value}
use Rattle.tf_bound.proofs.Sound.{env_is, sound}
use Rattle.tf_bound.proofs.alike.one_job_value.Goals as goal

pub returns-clause-bound : goal.returns-clause-bound
returns-clause-bound g c =
    let k = c.args.task.now in
    let fits : SFits w128 c.one_job_span.result = search rules in
    let value : to_z w128 (of_z w128 c.one_job_span.result) ≡ one_job_value k c.args.job =
    to_z-of_z w128 c.one_job_span.result fits ∙ c.one_job_span.ensures.value in
    let sized = c.one_job_span.ensures.sized in
    subst (λ (b : ℤ). IsLowerBound k b) (sym value)
    (c.one_job_law.ensures k (sound k sized) (env_is k sized) c.requires.goal c.args.job
    c.requires.job)
