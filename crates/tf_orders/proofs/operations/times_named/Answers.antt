use Rattle.std.proofs.Common.{◌<◌, arith, ◌∙◌}
use Rattle.std.proofs.lemmas.List.{get_or_default}
use Rattle.tf_orders.proofs.Operating.{named_more, named_small, turn_known}
use Rattle.tf_orders.proofs.operations.times_named.Goals as goal

pub overflow_add-index_mut : goal.overflow_add-index_mut
overflow_add-index_mut g c =
    let turns = c.args.turns.now in
    let i = c.loop-turn.turn-index in
    let t = c.turn-item.result in
    let there = turn_known c.args.jobs 1 turns i t c.requires c.loop-turn-test.true c.turn-item.is in
    let place : c.place.result < c.args.jobs =
    omega (arith, c.place.ensures.value, there.job.0, there.job.1) in
    let small = named_small c.args.jobs c.loop-turn.named.items turns i c.place.result
    c.index_mut.result.now c.loop-turn.invariant c.loop-turn.auto.turn-index-end place
    (c.index_mut.ensures.value
    ∙ get_or_default c.loop-turn.named.items c.place.result c.index_mut.result.now 0
    (omega (arith, place, c.loop-turn.invariant.len))) in
    omega (arith, small)

pub loop-turn-preserved : goal.loop-turn-preserved
loop-turn-preserved g c =
    let turns = c.args.turns.now in
    let i = c.loop-turn.turn-index in
    let t = c.turn-item.result in
    let there = turn_known c.args.jobs 1 turns i t c.requires c.loop-turn-test.true c.turn-item.is in
    let place : c.place.result < c.args.jobs =
    omega (arith, c.place.ensures.value, there.job.0, there.job.1) in
    named_more turns i t c.loop-turn-test.true c.turn-item.is c.args.jobs c.loop-turn.named.items
    c.place.result c.index_mut.result.now c.loop-turn.invariant there.job.0 there.job.1
    c.place.ensures.value
    (c.index_mut.ensures.value
    ∙ get_or_default c.loop-turn.named.items c.place.result c.index_mut.result.now 0
    (omega (arith, place, c.loop-turn.invariant.len)))
