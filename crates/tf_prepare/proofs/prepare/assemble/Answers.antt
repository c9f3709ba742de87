use Rattle.std.proofs.Common.{◌≡◌, ℕ, [], cond, List, inr, refl, sym, ap, ◌∙◌, subst}
use Rattle.tf_model.specs.JobFields.{JobFields}
use Rattle.tf_model.specs.InstanceData.{InstanceData}
use Rattle.tf_model.specs.declared.problem.Problem.{Problem}
use Rattle.tf_posed.specs.ProblemData.{ProblemData, ProblemJobData}
use Rattle.tf_bound.specs.Sized.{IsSized}
use Rattle.tf_prepare.specs.TimedData.{TimedData}
use Rattle.tf_prepare.specs.Preparing.{jobs_in, task_in}
use Rattle.tf_prepare.proofs.prepare.assemble.Goals as goal

-- the parts make the task
assembled : (p : Problem) (m : ℕ) (t : TimedData) (i : InstanceData) (jobs : List JobFields)
    (pairs : List (ℕ × ℕ)) (rows : List ProblemJobData) (arcs : List (ℕ × ℕ)) (task : ProblemData)
    → task ≡ record { problem = p; machines = m; jobs = rows; arcs = arcs }
    → i ≡ t.instance → rows ≡ jobs_in p t.by_machine 0 jobs → jobs ≡ i.jobs
    → arcs ≡ cond p.prec pairs [] → pairs ≡ i.arcs
    → task ≡ task_in p m t
assembled p m t i jobs pairs rows arcs task is has made read kept read_arcs =
    let rows_are : rows ≡ jobs_in p t.by_machine 0 t.instance.jobs =
    made ∙ ap (jobs_in p t.by_machine 0) (read ∙ ap (λ (x : InstanceData). x.jobs) has) in
    let arcs_are : arcs ≡ cond p.prec t.instance.arcs [] =
    kept ∙ ap (λ (xs : List (ℕ × ℕ)). cond p.prec xs [])
    (read_arcs ∙ ap (λ (x : InstanceData). x.arcs) has) in
    is
    ∙ ap (λ (xs : List ProblemJobData). record { problem = p; machines = m; jobs = xs; arcs = arcs })
    rows_are
    ∙ ap (λ (xs : List (ℕ × ℕ)). record {
      problem = p;
      machines = m;
      jobs = jobs_in p t.by_machine 0 t.instance.jobs;
      arcs = xs;
    }) arcs_are

pub returns-in-Ok-clause-ok : goal.returns-in-Ok-clause-ok
returns-in-Ok-clause-ok g c =
    assembled c.args.problem.now c.args.machines c.args.timed.now c.instance-instance.result.now
    c.jobs.result.now c.arcs.result.now _ _ c.in-Ok.task c.in-Ok.ensures.task c.instance-instance.ensures
    c.in_ok-jobs.ensures c.jobs.ensures.value c.in_ok-arcs.ensures c.arcs.ensures.value

pub returns-in-Err-clause-err : goal.returns-in-Err-clause-err
returns-in-Err-clause-err g c =
    let rows : List ProblemJobData = c.in_ok-jobs.jobs.items in
    let pairs : List (ℕ × ℕ) = c.in_ok-arcs.arcs.items in
    let task : ProblemData = record {
      problem = c.args.problem.now;
      machines = c.args.machines;
      jobs = rows;
      arcs = pairs;
    } in
    let is : task ≡ task_in c.args.problem.now c.args.machines c.args.timed.now =
    assembled c.args.problem.now c.args.machines c.args.timed.now c.instance-instance.result.now
    c.jobs.result.now c.arcs.result.now rows pairs task refl c.instance-instance.ensures
    c.in_ok-jobs.ensures c.jobs.ensures.value c.in_ok-arcs.ensures c.arcs.ensures.value in
    inr (refl, λ sized. c.in-Err.ensures.refused (subst IsSized (sym is) sized))
