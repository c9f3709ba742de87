use Rattle.tf_check.proofs.RankedTimes.{ranked_start}
use Rattle.tf_check.proofs.ranks.ranked_times.Goals as goal

pub loop-place-init : goal.loop-place-init
loop-place-init g c = ranked_start c.args.task.now c.args.jobs.now
