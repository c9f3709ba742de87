use Rattle.std.proofs.Common.{◌≡◌, false, ℕ, length, List, ap, sym, ◌∙◌}
use Rattle.std.proofs.lemmas.List.FromFn.{length-range_with_len}
use Rattle.tf_model.specs.declared.problem.Problem.{Problem}
use Rattle.tf_posed.specs.ProblemData.{problem_job, is_job_shop}
use Rattle.tf_bound.proofs.StepsOf.{steps_elsewhere}
use Rattle.tf_bound.proofs.task.ProblemTask.steps.Goals as goal

pub returns-else-is_job_shop-clause-value : goal.returns-else-is_job_shop-clause-value
returns-else-is_job_shop-clause-value g c =
    let k = c.args.self.now in
    let x = problem_job k c.args.job in
    let other : is_job_shop k.problem.env ≡ false =
    ap (λ (p : Problem). is_job_shop p.env) (sym c.problem.ensures.value)
    ∙ sym c.is_job_shop.ensures ∙ c.if-is_job_shop.false in
    ap (λ (xs : List ℕ). length xs) c.times.ensures.value
    ∙ sym (length-range_with_len 0 (length x.times))
    ∙ sym (ap (λ (xs : List ℕ). length xs) (steps_elsewhere k.problem.env other x))
