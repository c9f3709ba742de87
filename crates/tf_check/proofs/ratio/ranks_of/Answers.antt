use Rattle.std.proofs.Common.{◌∙◌}
use Rattle.tf_check.proofs.RatioRank.{ranked_more}
use Rattle.tf_check.proofs.ratio.ranks_of.Goals as goal

pub loop-k-preserved : goal.loop-k-preserved
loop-k-preserved g c =
    ranked_more c.args.task.now c.args.scale c.loop-k.ranks.items c.push.new.self.items _
    c.loop-k.k c.loop-k.invariant c.in_ok-push.ensures.items
    (c.rank_in.ensures.job ∙ c.at.ensures) c.rank_in.ensures.rank
