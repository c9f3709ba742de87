use Rattle.std.proofs.Common.{◌≡◌, ◌++◌, length}
use Rattle.std.specs.List.{flat_map}
use Rattle.tf_words.specs.Words.{lines}
use Rattle.tf_export.specs.Tally.{unnumbered}
use Rattle.tf_export.proofs.tally.push_unnumbered.Given as goal

-- the lines so far are written
abbrev pub invariant-loop-rest : goal.invariant-loop-rest
invariant-loop-rest l =
    l.all.items ++ flat_map unnumbered (lines l.rest)
    ≡ l.fn.all.items ++ flat_map unnumbered (lines l.fn.text)

abbrev pub decreases-loop-rest : goal.decreases-loop-rest
decreases-loop-rest l = length l.rest
