use Rattle.std.proofs.Common.{◌++◌, ◌∷◌, [], ap, sym, ◌∙◌}
use Rattle.tf_bound.proofs.Weighed.{range_more}
use Rattle.tf_bound.proofs.multipliers.all_jobs.Goals as goal

pub loop-k-preserved : goal.loop-k-preserved
loop-k-preserved g c =
    c.in-Ok-push.ensures.items ∙ ap (λ js. js ++ c.at.result ∷ []) c.loop-k.invariant
    ∙ sym (range_more c.loop-k.k c.at.result c.at.ensures)
