use Rattle.std.proofs.Common.{◌≡◌}
use Rattle.tf_grammar.specs.Commands.{name_of}
use Rattle.tf_grammar.proofs.row.with_rows.Given as goal

abbrev pub invariant-loop-row : goal.invariant-loop-row
invariant-loop-row l = name_of l.command ≡ name_of l.fn.command
