use Rattle.std.proofs.Common.{◌≡◌, ◌≤◌, All, sum_by, take}
use Rattle.tf_model.specs.Limit.{limit}
use Rattle.tf_bound.specs.Sized.{IsSizedJob, work}
use Rattle.tf_bound.proofs.task.all_work.Given as goal

abbrev pub invariant-loop-place : goal.invariant-loop-place
invariant-loop-place g l = record {
  sized : All (IsSizedJob l.problem l.machines) (take l.place l.jobs);
  value : l.all ≡ sum_by work (take l.place l.jobs);
  small : l.all ≤ limit;
}
