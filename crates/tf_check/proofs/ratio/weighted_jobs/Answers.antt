use Rattle.tf_check.proofs.RatioOrder.{weighted_more}
use Rattle.tf_check.proofs.ratio.weighted_jobs.Goals as goal

pub loop-k-preserved : goal.loop-k-preserved
loop-k-preserved g c =
    weighted_more c.args.task.now c.loop-k.jobs.items c.push.new.self.items _ c.loop-k.k
    c.loop-k.invariant
    c.in_ok-push.ensures.items c.at-job.ensures
    (record { weight = c.weight.ensures; time = c.time.ensures.value })
