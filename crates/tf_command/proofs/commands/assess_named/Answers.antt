use Rattle.std.proofs.Common.{inr}
use Rattle.tf_command.proofs.commands.assess_named.Goals as goal

pub returns-in-Ok : goal.returns-in-Ok
returns-in-Ok g c =
    rw (← c.in-Ok.ensures.unwritten, ← c.in-Ok.ensures.unsaid)
    (inr (inr (
      _,
      _,
      c.in-Ok.ensures.opened.0,
      c.in-Ok.ensures.opened.1,
      c.assess_beside.ensures,
    )))
