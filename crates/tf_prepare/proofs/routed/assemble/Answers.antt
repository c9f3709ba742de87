use Rattle.std.proofs.Common.{◌≡◌, ℕ, List, inr, refl, sym, subst}
use Rattle.tf_posed.specs.ProblemData.{ProblemData, ProblemJobData}
use Rattle.tf_bound.specs.Sized.{IsSized}
use Rattle.tf_prepare.specs.Preparing.{routed_task_in}
use Rattle.tf_prepare.proofs.RoutesOf.{assembled}
use Rattle.tf_prepare.proofs.routed.assemble.Goals as goal

pub returns-in-Ok-clause-ok : goal.returns-in-Ok-clause-ok
returns-in-Ok-clause-ok g c =
    assembled c.args.problem.now c.args.machines c.args.instance.now c.args.routes.now
    c.jobs.result.now c.arcs.result.now _ _ c.in-Ok.task c.in-Ok.ensures.task
    c.in_ok-jobs.ensures c.jobs.ensures.value c.in_ok-arcs.ensures c.arcs.ensures.value

pub returns-in-Err-clause-err : goal.returns-in-Err-clause-err
returns-in-Err-clause-err g c =
    let rows : List ProblemJobData = c.in_ok-jobs.jobs.items in
    let pairs : List (ℕ × ℕ) = c.in_ok-arcs.arcs.items in
    let task : ProblemData = record {
      problem = c.args.problem.now;
      machines = c.args.machines;
      jobs = rows;
      arcs = pairs;
    } in
    let is : task
    ≡ routed_task_in c.args.problem.now c.args.machines c.args.instance.now
    c.args.routes.now =
    assembled c.args.problem.now c.args.machines c.args.instance.now c.args.routes.now
    c.jobs.result.now c.arcs.result.now rows pairs task refl
    c.in_ok-jobs.ensures c.jobs.ensures.value c.in_ok-arcs.ensures c.arcs.ensures.value in
    inr (refl, λ sized. c.in-Err.ensures.refused (subst IsSized (sym is) sized))
