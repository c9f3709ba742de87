use Rattle.std.proofs.Common.{◌≡◌, map, take}
use Rattle.tf_model.specs.Prepare.{data_of}
use Rattle.tf_model.specs.Summed.{HasSummed}
use Rattle.tf_model.proofs.prepare.totals_of.Given as goal

abbrev pub invariant-loop-job : goal.invariant-loop-job
invariant-loop-job g l = record {
  summed : HasSummed l.totals (map (data_of l.class) (take l.job-index l.jobs));
  count : l.totals.jobs ≡ l.job-index;
}
