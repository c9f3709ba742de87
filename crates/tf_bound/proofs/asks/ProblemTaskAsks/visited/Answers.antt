use Rattle.std.proofs.Common.{sym, ap, ◌∙◌}
use Rattle.tf_model.specs.declared.problem.Problem.{Problem}
use Rattle.tf_posed.specs.ProblemData.{is_job_shop}
use Rattle.tf_bound.proofs.Limited.{visited_elsewhere}
use Rattle.tf_bound.proofs.asks.ProblemTaskAsks.visited.Goals as goal

pub returns-else-is_job_shop : goal.returns-else-is_job_shop
returns-else-is_job_shop g c =
    sym (visited_elsewhere c.args.self.now c.args.job
    (ap (λ (p : Problem). is_job_shop p.env) (sym c.problem.ensures.value)
    ∙ sym c.is_job_shop.ensures ∙ c.if-is_job_shop.false) c.args.place c.requires.place)
