use Rattle.std.proofs.Common.{◌∙◌}
use Rattle.tf_orders.proofs.Listing.{seen_more}
use Rattle.tf_orders.proofs.ruled.seen_jobs.Goals as goal

pub loop-k-preserved : goal.loop-k-preserved
loop-k-preserved g c =
    seen_more (g.T.Asks.posed c.args.task.now) c.loop-k.jobs.items c.push.new.self.items
    c.seen.result c.loop-k.k c.loop-k.invariant c.in_ok-push.ensures.items
    (c.seen.ensures.job ∙ c.at.ensures) c.seen.ensures.seen
