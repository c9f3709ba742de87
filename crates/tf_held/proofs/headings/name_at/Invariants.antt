use Rattle.std.proofs.Common.{◌≡◌, ◌-◌, length, slice_index_or, []}
use Rattle.tf_words.specs.Words.{lines}
use Rattle.tf_held.specs.Headings.{name_at, names_of}
use Rattle.tf_held.proofs.headings.name_at.Given as goal

-- the name that is wanted is behind as many names fewer as were passed
abbrev pub invariant-loop-rest : goal.invariant-loop-rest
invariant-loop-rest l =
    slice_index_or (names_of (lines l.rest)) (l.passed - 1) [] ≡ name_at l.text l.number

abbrev pub decreases-loop-rest : goal.decreases-loop-rest
decreases-loop-rest l = length l.rest
