use Rattle.std.proofs.Common.{inr}
use Rattle.tf_command.proofs.problems.list_named.Goals as goal

pub returns-in-Ok : goal.returns-in-Ok
returns-in-Ok g c =
    rw (← c.in-Ok.ensures.unwritten, ← c.in-Ok.ensures.unsaid)
    (inr (_, c.in-Ok.ensures.opened, c.list_for.ensures))
