use Rattle.std.proofs.Common.{◌≡◌, ℕ, List, ◌++◌, length}
use Rattle.tf_words.specs.Scan.{AreBlanks}
use Rattle.tf_words.proofs.scan.behind_blanks.Given as goal

-- all bytes so far are blanks
abbrev pub invariant-loop-rest : goal.invariant-loop-rest
invariant-loop-rest l = (blanks : List ℕ) × AreBlanks blanks × (l.text ≡ blanks ++ l.rest)

abbrev pub decreases-loop-rest : goal.decreases-loop-rest
decreases-loop-rest l = length l.rest
