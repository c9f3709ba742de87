use Rattle.std.proofs.Common.{◌≡◌, ◌+◌, drop}
use Rattle.tf_model.specs.Prepare.{missing_from}
use Rattle.tf_model.proofs.prepare.first_missing.Given as goal

-- the first of what is left is the first of all
abbrev pub invariant-loop-k : goal.invariant-loop-k
invariant-loop-k g l =
    missing_from l.class (l.k + 1) (drop l.k l.jobs) ≡ missing_from l.class 1 l.jobs
