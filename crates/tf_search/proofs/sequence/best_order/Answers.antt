use Rattle.tf_search.proofs.sequence.best_order.Goals as goal
use Rattle.tf_search.proofs.sequence.best_order.Goals.{then-next-best, else-next-best}

pub loop-look-init : goal.loop-look-init
loop-look-init g c = c.in_ok-best.ensures

pub loop-look-preserved : goal.loop-look-preserved
loop-look-preserved g c =
    elim c.if-next-best.branch [
      | then-next-best w ↦ rw w.best-is c.in_ok-next.ensures
      | else-next-best w ↦ rw w.best-is c.loop-look.invariant
    ]
