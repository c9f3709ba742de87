use Rattle.std.proofs.Common.{◌≡◌, drop}
use Rattle.tf_prepare.specs.Preparing.{idle_in}
use Rattle.tf_prepare.proofs.prepare.first_idle.Given as goal

-- the first of what is left is the first of all
abbrev pub invariant-loop-k : goal.invariant-loop-k
invariant-loop-k g l =
    idle_in l.timed.by_machine l.k (drop l.k l.jobs) ≡ idle_in l.timed.by_machine 0 l.jobs
