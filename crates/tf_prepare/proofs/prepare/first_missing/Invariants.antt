use Rattle.std.proofs.Common.{◌≡◌, ◌+◌, drop}
use Rattle.tf_prepare.specs.Preparing.{missing_in}
use Rattle.tf_prepare.proofs.prepare.first_missing.Given as goal

-- the first of what is left is the first of all
abbrev pub invariant-loop-k : goal.invariant-loop-k
invariant-loop-k g l =
    missing_in l.problem (l.k + 1) (drop l.k l.jobs) ≡ missing_in l.problem 1 l.jobs
