use Rattle.tf_engine.proofs.Ending.{ends_run, leaves_case}
use Rattle.tf_orders.proofs.run_orders.run_orders.Goals as goal

pub returns-clause-outcome : goal.returns-clause-outcome
returns-clause-outcome g c = ends_run c.orders_output.ensures c.write_output.ensures

pub returns-clause-devices : goal.returns-clause-devices
returns-clause-devices g c = leaves_case c.orders_output.ensures c.write_output.ensures
