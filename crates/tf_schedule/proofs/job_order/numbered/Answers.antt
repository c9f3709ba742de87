use Rattle.std.proofs.Common.{◌∙◌}
use Rattle.tf_schedule.proofs.Passing.{numbered_more}
use Rattle.tf_schedule.proofs.job_order.numbered.Goals as goal

pub loop-k-preserved : goal.loop-k-preserved
loop-k-preserved g c =
    c.in_ok-push.ensures.items
    ∙ numbered_more c.loop-k.order.items c.loop-k.k c.at.result c.loop-k.invariant c.at.ensures
