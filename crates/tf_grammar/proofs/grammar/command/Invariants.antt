use Rattle.std.proofs.Common.{◌≡◌, map, take}
use Rattle.clap.specs.Facts.{subcommands_of}
use Rattle.tf_grammar.specs.Commands.{name_of, command_names}
use Rattle.tf_grammar.proofs.grammar.command.Given as goal

abbrev pub invariant-loop-place : goal.invariant-loop-place
invariant-loop-place l = map name_of (subcommands_of l.command) ≡ take l.place command_names
