use Rattle.std.proofs.Common.{◌≡◌, map, take}
use Rattle.tf_dated.specs.Dates.{dates_of}
use Rattle.tf_dated.proofs.dates.dates_of.Given as goal

abbrev pub invariant-loop-job : goal.invariant-loop-job
invariant-loop-job g l = l.dates.items ≡ map (dates_of l.problem) (take l.job-index l.jobs)
