use Rattle.std.proofs.Common.{◌*◌, ◌^◌, ◌≤◌}
use Rattle.tf_check.proofs.RatioOrder.{AreSummed}
use Rattle.tf_bound.proofs.multipliers.completions.Given as goal

abbrev pub invariant-loop-job : goal.invariant-loop-job
invariant-loop-job l = record {
  summed : AreSummed l.jobs l.job-index l.completion l.value;
  small : l.completion ≤ l.job-index * 2 ^ 64;
}
