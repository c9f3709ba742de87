use Rattle.std.proofs.Common.{ℕ, ◌<◌, ◌≤◌}
use Rattle.tf_check.specs.Ranked.{IsBetween}
use Rattle.tf_model.specs.SchedulingTask.{job_data}
use Rattle.tf_single.proofs.by_due.near_due.Given as goal

-- the due dates so far lie within the span
abbrev pub invariant-loop-k : goal.invariant-loop-k
invariant-loop-k g l =
    (j : ℕ) → 0 < j → j ≤ l.k → IsBetween l.span (job_data l.task j).due
