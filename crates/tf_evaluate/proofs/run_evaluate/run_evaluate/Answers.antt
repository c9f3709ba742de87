use Rattle.tf_engine.proofs.Ending.{ends_run, leaves_case}
use Rattle.tf_evaluate.proofs.run_evaluate.run_evaluate.Goals as goal

pub returns-clause-outcome : goal.returns-clause-outcome
returns-clause-outcome g c = ends_run c.evaluation_output.ensures c.write_output.ensures

pub returns-clause-devices : goal.returns-clause-devices
returns-clause-devices g c = leaves_case c.evaluation_output.ensures c.write_output.ensures
