use Rattle.tf_engine.proofs.Ending.{ends_run, leaves_drawing}
use Rattle.tf_picture.proofs.run_picture.run_picture.Goals as goal

pub returns-clause-outcome : goal.returns-clause-outcome
returns-clause-outcome g c = ends_run c.picture_output.ensures c.write_output.ensures

pub returns-clause-devices : goal.returns-clause-devices
returns-clause-devices g c = leaves_drawing c.picture_output.ensures c.write_output.ensures
