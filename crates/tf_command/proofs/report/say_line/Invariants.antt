use Rattle.std.proofs.Common.{◌++◌, ◌∷◌, take}
use Rattle.std.specs.List.{flat_map}
use Rattle.tf_command.specs.Wrote.{Gathers}
use Rattle.tf_command.proofs.report.say_line.Given as goal

-- the words so far are gathered
abbrev pub invariant-loop-word : goal.invariant-loop-word
invariant-loop-word g l =
    Gathers g.W.Write.contents l.fn.writer l.writer l.line.bytes.items
    ((l.front ++ l.name) ++ flat_map (λ word. 32 ∷ word.now) (take l.word-index l.words))
