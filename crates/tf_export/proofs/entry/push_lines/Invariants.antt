use Rattle.std.proofs.Common.{◌≡◌, ◌++◌, length}
use Rattle.std.specs.List.{flat_map}
use Rattle.tf_words.specs.Words.{lines}
use Rattle.tf_export.specs.Entry.{told_of}
use Rattle.tf_export.proofs.entry.push_lines.Given as goal

-- what the lines so far tell is written
abbrev pub invariant-loop-rest : goal.invariant-loop-rest
invariant-loop-rest l =
    l.all.items ++ flat_map told_of (lines l.rest)
    ≡ l.fn.all.items ++ flat_map told_of (lines l.fn.text)

abbrev pub decreases-loop-rest : goal.decreases-loop-rest
decreases-loop-rest l = length l.rest
