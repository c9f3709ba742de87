use Rattle.std.proofs.Common.{◌≡◌, length}
use Rattle.tf_single.specs.Open.{AreTaken}
use Rattle.tf_single.proofs.DearestStep.{HasDearest}
use Rattle.tf_single.proofs.backward.last_first.Given as goal

abbrev pub invariant-loop-place : goal.invariant-loop-place
invariant-loop-place g l = record {
  now : AreTaken l.task l.open.taken.items l.open.counts.items
      (g.F.FreeJobs.jobs_of l.open.free) l.open.work;
  kept : g.F.FreeJobs.IsKept l.open.free l.task l.open.work;
  count : length l.open.taken.items ≡ l.place;
  dearest : HasDearest l.task l.open.taken.items l.dearest;
}
