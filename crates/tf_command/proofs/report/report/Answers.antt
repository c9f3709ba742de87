use Rattle.tf_command.proofs.report.report.Goals as goal

pub returns-in-Text-clause-line : goal.returns-in-Text-clause-line
returns-in-Text-clause-line g c =
    rw (c.in-Text.is, ← c.said_of_text.ensures) c.say-in-Text.ensures

pub returns-in-Task-clause-line : goal.returns-in-Task-clause-line
returns-in-Task-clause-line g c =
    rw (c.in-Task.is, ← c.said_of_task.ensures) c.say-in-Task.ensures

pub returns-in-Cycle-clause-line : goal.returns-in-Cycle-clause-line
returns-in-Cycle-clause-line g c =
    rw (c.in-Cycle.is, ← c.as_slice.ensures) c.say_cycle.ensures

pub returns-in-Answer-clause-line : goal.returns-in-Answer-clause-line
returns-in-Answer-clause-line g c =
    rw (c.in-Answer.is, ← c.said_of_answer.ensures) c.say-in-Answer.ensures

pub returns-in-Pieces-clause-line : goal.returns-in-Pieces-clause-line
returns-in-Pieces-clause-line g c =
    rw (c.in-Pieces.is, ← c.said_of_pieces.ensures) c.say-in-Pieces.ensures
