use Rattle.tf_engine.proofs.Ending.{ends_by, leaves_drawing}
use Rattle.tf_engine.proofs.run_gantt.run_gantt.Goals as goal

pub returns-clause-outcome : goal.returns-clause-outcome
returns-clause-outcome g c =
    ends_by (λ text drawn shown. shown) (c.schedule_read.ensures c.args.columns)
    c.write_chart.ensures

pub returns-clause-devices : goal.returns-clause-devices
returns-clause-devices g c =
    leaves_drawing (c.schedule_read.ensures c.args.columns) c.write_chart.ensures
