use Rattle.std.proofs.Common.{◌≡◌, ◌*◌, ◌≤◌, sum_by, take}
use Rattle.tf_model.specs.Limit.{limit}
use Rattle.tf_problem.specs.Parts.{part_of}
use Rattle.tf_bound.proofs.parts.parts_of.Given as goal

abbrev pub invariant-loop-job : goal.invariant-loop-job
invariant-loop-job g l = record {
  value : l.work ≡ sum_by (part_of l.task l.interval.from l.interval.until l.interval.late)
      (take l.job-index l.jobs);
  small : l.work ≤ l.job-index * limit;
}
