use Rattle.tf_problem.proofs.Ranks.{rank_value_from}
use Rattle.std.proofs.Common.{arith}
use Rattle.tf_bound.proofs.ranks.ranked_times.Goals as goal

pub loop-place-init : goal.loop-place-init
loop-place-init g c = record {
  value = omega (arith, rank_value_from c.args.task.now 0 c.args.jobs.now);
  small = omega arith;
}
