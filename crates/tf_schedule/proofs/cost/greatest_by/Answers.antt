use mir.Val.{SFits, to_z, of_z}
use mir.Syntax.{w128}
use Rattle.std.proofs.Common.{rules, ◌≡◌, ◌<◌, length, ℤ, ap, ◌∙◌, arith}
use Rattle.std.specs.Int.{int_max}
use Rattle.std.proofs.lemmas.Int.{to_z-of_z}
use Rattle.tf_model.specs.Cost.{price}
use Rattle.tf_schedule.specs.Lanes.{stop_by}
use Rattle.tf_schedule.proofs.Prices.{price_all, price_reached}
use Rattle.tf_schedule.proofs.cost.greatest_by.Goals as goal

pub loop-k-preserved : goal.loop-k-preserved
loop-k-preserved g c =
    let fits : SFits w128 c.max-value.result = search rules in
    let fits_price : SFits w128 c.price_by.result = search rules in
    let stored : to_z w128 (of_z w128 c.max-value.result) ≡ c.max-value.result =
    to_z-of_z w128 c.max-value.result fits in
    let j = c.at-in-loop-k.result in
    let own : to_z w128 (of_z w128 c.price_by.result)
    ≡ price c.args.task.now j (stop_by c.args.extents.now j) =
    to_z-of_z w128 c.price_by.result fits_price ∙ c.price_by.ensures in
    let inside : c.loop-k.k < length c.args.task.now.jobs =
    omega (arith, c.loop-k-test.true, c.len-jobs.ensures.value) in
    let raised : c.max-value.result
    ≡ int_max (to_z w128 c.loop-k.value-bits)
    (price c.args.task.now j (stop_by c.args.extents.now j)) =
    c.max-value.ensures.value ∙ ap (λ (z : ℤ). int_max (to_z w128 c.loop-k.value-bits) z) own in
    let new : to_z w128 (of_z w128 c.max-value.result)
    ≡ int_max (to_z w128 c.loop-k.value-bits)
    (price c.args.task.now j (stop_by c.args.extents.now j)) = stored ∙ raised in
    record {
      all = price_all c.args.task.now (stop_by c.args.extents.now) c.loop-k.k j
          (to_z w128 c.loop-k.value-bits) (to_z w128 (of_z w128 c.max-value.result)) inside
          c.at-in-loop-k.ensures new c.loop-k.invariant.all;
      reached = price_reached c.args.task.now (stop_by c.args.extents.now) c.loop-k.k j
          (to_z w128 c.loop-k.value-bits) (to_z w128 (of_z w128 c.max-value.result)) inside
          c.at-in-loop-k.ensures new c.loop-k.invariant.reached;
    }
