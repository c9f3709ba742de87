use Rattle.tf_planning.proofs.made.plan_for.Goals as goal

pub returns-in-Err : goal.returns-in-Err
returns-in-Err g c = c.unplanned.ensures c.args.task.now c.in-Err.ensures.plan
