use Rattle.std.proofs.Common.{◌≡◌, slice_index}
use Rattle.std.specs.List.{All}
use Rattle.tf_single.specs.CostedJob.{HasLevel, jobs_of}
use Rattle.tf_single.proofs.Cheapest.{IsCheapest}
use Rattle.tf_single.proofs.by_cost.cheapest.Given as goal

abbrev pub invariant-loop-k : goal.invariant-loop-k
invariant-loop-k g l = record {
  jobs : jobs_of l.free ≡ jobs_of l.initial.free;
  levels : All (HasLevel l.task l.end) l.free;
  last : l.last ≡ slice_index (jobs_of l.initial.free) l.place;
  cheapest : IsCheapest l.task (jobs_of l.initial.free) l.end l.k l.place l.least;
}
