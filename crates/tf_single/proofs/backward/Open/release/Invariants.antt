use Rattle.std.proofs.Common.{◌≡◌, ◌==◌, count_by, drop, All}
use Rattle.tf_model.specs.SchedulingTask.{IsJob}
use Rattle.tf_single.specs.Open.{IsOpen}
use Rattle.tf_single.proofs.backward.Open.release.Given as goal

abbrev pub invariant-loop-before : goal.invariant-loop-before
invariant-loop-before g l = record {
  taken : l.self.taken.items ≡ l.fn.self.taken.items;
  work : l.self.work ≡ l.fn.self.work;
  known : All (IsJob l.task) l.before-items;
  now : IsOpen l.task l.self.taken.items
      (λ i. count_by (λ b. b == i) (drop l.before-index l.before-items))
      l.self.counts.items (g.F.FreeJobs.jobs_of l.self.free);
  kept : g.F.FreeJobs.IsKept l.self.free l.task l.self.work;
}
