use Rattle.std.proofs.Common.{◌≡◌, min, fold, take, slice_index}
use Rattle.tf_check.proofs.last_of.smallest.Given as goal

abbrev pub invariant-loop-job : goal.invariant-loop-job
invariant-loop-job l = l.smallest ≡ fold min (slice_index l.jobs 0) (take l.job-index l.jobs)
