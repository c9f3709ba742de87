use Rattle.tf_engine.proofs.Ending.{ends_run, leaves_instance}
use Rattle.tf_trace.proofs.run_trace.run_trace.Goals as goal

pub returns-clause-outcome : goal.returns-clause-outcome
returns-clause-outcome g c = ends_run c.trace_output.ensures c.write_output.ensures

pub returns-clause-devices : goal.returns-clause-devices
returns-clause-devices g c = leaves_instance c.trace_output.ensures c.write_output.ensures
