use Rattle.tf_engine.proofs.Ending.{ends_by, leaves_instance}
use Rattle.tf_planning.proofs.run_plan.run_plan.Goals as goal

pub returns-clause-outcome : goal.returns-clause-outcome
returns-clause-outcome g c =
    ends_by (λ text printed plans. plans) c.plan_printed.ensures c.write_printed.ensures

pub returns-clause-devices : goal.returns-clause-devices
returns-clause-devices g c = leaves_instance c.plan_printed.ensures c.write_printed.ensures
