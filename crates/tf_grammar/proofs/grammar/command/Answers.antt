use Rattle.std.proofs.Common.{◌≡◌, ℕ, ◌+◌, ◌<◌, List, [], ◌∷◌, ◌++◌, map, take, get_or, codes, sym, ap, ◌∙◌}
use Rattle.std.proofs.lemmas.List.{map-append, take_more}
use Rattle.std.specs.Borrow.{Bor}
use Rattle.clap.specs.Built.{AddsSubcommand}
use Rattle.clap.specs.Facts.{subcommands_of}
use Rattle.clap.specs.declared.builder.command.Command.{Command}
use Rattle.tf_grammar.specs.Commands.{name_of, command_names}
use Rattle.tf_grammar.proofs.grammar.command.Goals as goal

-- one command more
one_more : (old sub new : Command) (i : ℕ) → i < 9 → AddsSubcommand old sub new
    → name_of sub ≡ get_or command_names i (codes "problems")
    → map name_of (subcommands_of old) ≡ take i command_names
    → map name_of (subcommands_of new) ≡ take (i + 1) command_names
one_more old sub new i lt adds name before =
    ap (map name_of) adds.subcommands
    ∙ map-append name_of (subcommands_of old) (adds.added ∷ [])
    ∙ ap (λ xs. xs ++ name_of adds.added ∷ []) before
    ∙ ap (λ (x : List ℕ). take i command_names ++ x ∷ [])
    (ap (λ (b : Bor (List ℕ)). b.now) adds.name ∙ name)
    ∙ sym (take_more command_names i (codes "problems") lt)

pub loop-place-preserved : goal.loop-place-preserved
loop-place-preserved c =
    one_more c.loop-place.command c.in_ok-command_at.field-0 c.in_ok-command.command
    c.loop-place.place c.loop-place-test.true c.in_ok-command.ensures c.in_ok-command_at.ensures
    c.loop-place.invariant
