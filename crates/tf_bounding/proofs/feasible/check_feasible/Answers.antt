use Rattle.std.proofs.Common.{refl}
use Rattle.tf_posed.specs.ProblemData.{problem_jobs}
use Rattle.tf_plan.proofs.Laid.{order_fits}
use Rattle.tf_plan.proofs.Named.{plain_order}
use Rattle.tf_bounding.proofs.feasible.check_feasible.Goals as goal

pub returns-then-not-problem : goal.returns-then-not-problem
returns-then-not-problem g c =
    order_fits c.args.task.now c.problem.ensures.sized (problem_jobs c.args.task.now)
    (plain_order c.args.task.now c.problem.result (problem_jobs c.args.task.now)
    c.if-not-problem.true c.problem.ensures.value refl)

pub returns-in-Ok : goal.returns-in-Ok
returns-in-Ok g c =
    order_fits c.args.task.now c.problem.ensures.sized c.in-Ok.field-0.items c.in-Ok.ensures

pub returns : goal.returns
returns g c = c.unordered.ensures c.args.task.now c.in-Err.ensures
