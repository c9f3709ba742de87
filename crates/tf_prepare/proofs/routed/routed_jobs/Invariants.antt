use Rattle.std.proofs.Common.{◌≡◌, ◌++◌, drop}
use Rattle.tf_prepare.specs.Preparing.{routed_jobs_in}
use Rattle.tf_prepare.proofs.routed.routed_jobs.Given as goal

-- the rows so far and those of what is left are all rows
abbrev pub invariant-loop-k : goal.invariant-loop-k
invariant-loop-k g l =
    l.rows.items ++ routed_jobs_in l.problem l.machines (drop l.k l.routes) (drop l.k l.jobs)
    ≡ routed_jobs_in l.problem l.machines l.routes l.jobs
