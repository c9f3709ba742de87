use Rattle.tf_engine.proofs.Ending.{ends_run, leaves_case}
use Rattle.tf_assess.proofs.run_assess.run_assess.Goals as goal

pub returns-clause-outcome : goal.returns-clause-outcome
returns-clause-outcome g c = ends_run c.assessment_output.ensures c.write_output.ensures

pub returns-clause-devices : goal.returns-clause-devices
returns-clause-devices g c = leaves_case c.assessment_output.ensures c.write_output.ensures
