use Rattle.std.proofs.Common.{◌≡◌, true, false, not, Bool, length, ap, sym, ◌∙◌}
use Rattle.tf_posed.specs.ProblemData.{ProblemJobData}
use Rattle.tf_bound.proofs.Refused.{unrouted_unfit}
use Rattle.tf_bound.proofs.task.is_unrouted.Goals as goal

not_true : (b : Bool) → not b ≡ true → b ≡ false
not_true true e = cc
not_true false e = cc

pub returns-then-is_job_shop-clause-unfit : goal.returns-then-is_job_shop-clause-unfit
returns-then-is_job_shop-clause-unfit g c = λ unrouted machines.
    unrouted_unfit c.args.problem.now (sym c.is_job_shop.ensures ∙ c.if-is_job_shop.true)
    c.args.job.now
    (sym (ap (λ (x : ProblemJobData). length x.route) c.job.view_is)
    ∙ c.is_routed.ensures.none (not_true c.is_routed.result unrouted)) machines
