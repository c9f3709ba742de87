-- The commands of the program, by their names.
use Rattle.std.specs.Prelude.{ℕ, List, [], ◌∷◌, codes}
use Rattle.clap.specs.declared.builder.command.Command.{Command}
use Rattle.clap.specs.declared.builder.command.Command.TheViews.{out-Command as fields_of}

abbrev pub name_of : Command → List ℕ
name_of c = (fields_of c).name.now

-- in the order of the help
abbrev pub command_names : List (List ℕ)
command_names =
    codes "solve" ∷ codes "plan" ∷ codes "bound" ∷ codes "trace" ∷ codes "check"
    ∷ codes "evaluate" ∷ codes "gantt" ∷ codes "random" ∷ codes "problems" ∷ []
