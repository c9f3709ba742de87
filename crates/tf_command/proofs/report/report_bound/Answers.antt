use Rattle.tf_command.proofs.report.report_bound.Goals as goal

pub returns-in-Text-clause-line : goal.returns-in-Text-clause-line
returns-in-Text-clause-line g c = rw (c.in-Text.is, ← c.said_of_bound.ensures) c.say.ensures
