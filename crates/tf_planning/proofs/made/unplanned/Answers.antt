use Rattle.std.proofs.Common.{refl, inr, subst}
use Rattle.tf_plan.specs.NoPlan.{HasNoPlan}
use Rattle.tf_planning.proofs.Running.{dear_stops}
use Rattle.tf_planning.proofs.made.unplanned.Goals as goal

pub returns-in-TooLarge : goal.returns-in-TooLarge
returns-in-TooLarge g c = λ k dear.
    inr (refl, inr (dear_stops k (subst (HasNoPlan k) c.in-TooLarge.is dear)))
