use Rattle.std.proofs.Common.{◌≡◌, ◌++◌, drop}
use Rattle.tf_prepare.specs.Preparing.{jobs_in}
use Rattle.tf_prepare.proofs.prepare.jobs_in.Given as goal

-- the rows so far and those of what is left are all rows
abbrev pub invariant-loop-k : goal.invariant-loop-k
invariant-loop-k g l =
    l.rows.items ++ jobs_in l.problem l.timed.by_machine l.k (drop l.k l.jobs)
    ≡ jobs_in l.problem l.timed.by_machine 0 l.jobs
