use Rattle.std.proofs.Common.{subst, arith}
use Rattle.std.specs.List.{All}
use Rattle.std.proofs.lemmas.List.{take_all}
use Rattle.std.proofs.lemmas.List.Elements.{All-more}
use Rattle.std.proofs.lemmas.Grind.{common_steps}
use Rattle.tf_schedule.specs.Condition.{StartsAfter}
use Rattle.tf_schedule.proofs.fit.first_out_of_order.Goals as goal

pub loop-arc-preserved : goal.loop-arc-preserved
loop-arc-preserved g c =
    let here : StartsAfter c.args.lanes.now c.arc-item.result = grind (arith, common_steps) in
    All-more (StartsAfter c.args.lanes.now) c.args.arcs.now c.loop-arc.arc-index c.arc-item.result
    c.loop-arc-test.true c.loop-arc.invariant
    (subst (StartsAfter c.args.lanes.now) c.arc-item.is here)

pub returns : goal.returns
returns g c = subst (All (StartsAfter c.args.lanes.now))
    (take_all c.loop-arc.arc-index c.args.arcs.now c.loop-arc-test.false) c.loop-arc.invariant
