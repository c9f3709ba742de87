use Rattle.tf_read.proofs.weighted_tardiness.WtReader.finish.Goals as goal

pub returns-in-Ok : goal.returns-in-Ok
returns-in-Ok g c = λ says fed h. rw c.into_instance.ensures (c.in-Ok.ensures says fed h)
