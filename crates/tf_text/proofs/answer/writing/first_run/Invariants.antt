use Rattle.std.proofs.Common.{◌≡◌, ◌<◌, ◌≤◌, length}
use Rattle.tf_text.specs.JobWords.{before, runs}
use Rattle.tf_text.proofs.answer.writing.first_run.Given as goal

-- the run so far, and those of the jobs that are left
abbrev pub invariant-loop-job : goal.invariant-loop-job
invariant-loop-job l = (before (record { first = l.first; last = l.last }) (runs l.rest)
    ≡ runs l.jobs)
    × (l.first ≤ l.last) × (length l.rest < length l.jobs)

abbrev pub decreases-loop-job : goal.decreases-loop-job
decreases-loop-job l = length l.rest
