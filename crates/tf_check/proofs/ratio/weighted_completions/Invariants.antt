use Rattle.tf_check.proofs.RatioOrder.{AreSummedIn}
use Rattle.tf_check.proofs.ratio.weighted_completions.Given as goal

abbrev pub invariant-loop-job : goal.invariant-loop-job
invariant-loop-job g l = AreSummedIn l.task l.jobs l.job-index l.completion l.value
