use Rattle.tf_text.specs.Counted.{use_of}
use Rattle.tf_engine.proofs.AcceptedAlone.{accepts_outcome}
use Rattle.tf_engine.proofs.Ending.{ends_run, leaves_case}
use Rattle.tf_engine.proofs.run_check.run_check.Goals as goal

pub returns-clause-outcome : goal.returns-clause-outcome
returns-clause-outcome g c = ends_run c.verdict_output.ensures c.write_output.ensures

pub returns-clause-accepts : goal.returns-clause-accepts
returns-clause-accepts g c =
    accepts_outcome c.args.request.now
    (use_of g.R.Read.remaining c.args.instance.now c.verdict_output.new.instance)
    (use_of g.S.Read.remaining c.args.answer.now c.verdict_output.new.answer)
    (use_of g.W.Write.contents c.args.writer.now c.write_output.new.writer) _
    (ends_run c.verdict_output.ensures c.write_output.ensures)

pub returns-clause-devices : goal.returns-clause-devices
returns-clause-devices g c = leaves_case c.verdict_output.ensures c.write_output.ensures
