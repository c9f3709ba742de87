use Rattle.std.proofs.Common.{◌≡◌}
use Rattle.tf_grammar.specs.Commands.{name_of}
use Rattle.tf_grammar.proofs.row.with_groups.Given as goal

abbrev pub invariant-loop-rows : goal.invariant-loop-rows
invariant-loop-rows l = name_of l.command ≡ name_of l.fn.command
