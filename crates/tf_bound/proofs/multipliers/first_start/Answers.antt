use Rattle.std.proofs.Common.{ℕ, List, sym, subst, All}
use Rattle.tf_posed.specs.ProblemData.{IsProblemJob}
use Rattle.tf_posed.proofs.Conditions.{All-problem_jobs}
use Rattle.tf_bound.proofs.multipliers.first_start.Goals as goal

pub least_release-requires-clause-known : goal.least_release-requires-clause-known
least_release-requires-clause-known g c =
    let k = c.args.task.now in
    subst (λ (js : List ℕ). All (IsProblemJob k) js) (sym c.requires.jobs)
    (All-problem_jobs k (IsProblemJob k) (λ j h. h))

pub least_head-requires-clause-known : goal.least_head-requires-clause-known
least_head-requires-clause-known g c =
    let k = c.args.task.now in
    subst (λ (js : List ℕ). All (IsProblemJob k) js) (sym c.requires.jobs)
    (All-problem_jobs k (IsProblemJob k) (λ j h. h))
