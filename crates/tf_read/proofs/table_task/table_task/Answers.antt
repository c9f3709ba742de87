use Rattle.std.proofs.Common.{[], Ok, refl, ◌≡◌}
use Rattle.tf_model.specs.InstanceData.{InstanceData}
use Rattle.tf_model.specs.Prepare.{prepared}
use Rattle.tf_read.proofs.BodyRead.{body_read, of_said}
use Rattle.tf_read.proofs.JobsJudged.{table_judged}
use Rattle.tf_read.proofs.table_task.table_task.Goals as goal

pub finish-requires : goal.finish-requires
finish-requires g c =
    let (jobs, takes, count, read, left) = c.in_ok-jobs.ensures in (
      c.args.problem.now,
      c.args.machines,
      record { jobs = jobs; arcs = c.in-Ok-arcs_of.arcs.items; machines = c.in-Ok.given },
      takes _ _ _ [] c.in_ok-builder.ensures,
      refl,
      table_judged _ _ jobs _ _ c.in-Ok.given read count c.in-Ok-arcs_of.ensures c.in-Ok.ensures.count,
    )

pub returns : goal.returns
returns g c =
    let (jobs, takes, count, read, left) = c.in_ok-jobs.ensures in
    let i : InstanceData =
    record { jobs = jobs; arcs = c.in-Ok-arcs_of.arcs.items; machines = c.in-Ok.given } in
    of_said c.finish.result
    (λ (x : InstanceData) task. prepared x c.args.problem.now c.args.machines ≡ Ok task) _ _ i
    c.in-Ok.ensures.body (body_read _ _ _ jobs _ _ read count left c.in-Ok-arcs_of.ensures)
    (c.finish.ensures c.args.problem.now c.args.machines i (takes _ _ _ [] c.in_ok-builder.ensures)
    refl)
