use Rattle.std.proofs.Common.{inl}
use Rattle.tf_command.proofs.problems.list_border.Goals as goal

pub returns-in-Ok : goal.returns-in-Ok
returns-in-Ok g c = inl (c.as_bytes.result.now, c.write_out.ensures)
