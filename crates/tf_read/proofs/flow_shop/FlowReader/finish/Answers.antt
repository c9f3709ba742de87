use Rattle.tf_read.proofs.flow_shop.FlowReader.finish.Goals as goal

pub returns-in-Ok-clause-given : goal.returns-in-Ok-clause-given
returns-in-Ok-clause-given g c = λ says fed h.
    rw c.into_instance.ensures (c.in-Ok.ensures.given says fed h)

pub returns-in-Ok-clause-too_long : goal.returns-in-Ok-clause-too_long
returns-in-Ok-clause-too_long g c = λ says fed h long.
    rw c.into_instance.ensures (c.in-Ok.ensures.too_long says fed h long)
