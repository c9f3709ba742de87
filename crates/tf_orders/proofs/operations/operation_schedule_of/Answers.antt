use Rattle.std.proofs.Common.{◌≡◌, ℕ, ◌+◌, ◌-◌, ◌<◌, length, get_or, ap, set, slice_index, subst, sym, arith, ◌∙◌}
use Rattle.std.proofs.lemmas.List.{get_or_default}
use Rattle.tf_orders.specs.Laying.{stop_on, with_operation}
use Rattle.tf_orders.specs.Operations.{AreFree, free_from}
use Rattle.tf_bound.specs.Steps.{steps_of}
use Rattle.tf_orders.proofs.Operating.{free_more, named_more, named_small, operations_more, step_known, turn_known}
use Rattle.tf_orders.proofs.operations.operation_schedule_of.Goals as goal

pub step-machine-requires-clause-place : goal.step-machine-requires-clause-place
step-machine-requires-clause-place g c =
    let turns = c.args.turns.now in
    let i = c.loop-turn.turn-index in
    let t = c.turn-item.result in
    let k = c.args.task.now in
    let known = turn_known (length k.jobs) 1 turns i t c.requires.turns c.loop-turn-test.true c.turn-item.is in
    (step_known k turns i t c.loop-turn.laid.items c.place-place.result c.index.result.now
    c.loop-turn-test.true c.turn-item.is known c.loop-turn.invariant.laid c.place-place.ensures.value
    c.index.ensures c.requires.few).1

pub overflow_add-index_mut : goal.overflow_add-index_mut
overflow_add-index_mut g c =
    let turns = c.args.turns.now in
    let i = c.loop-turn.turn-index in
    let t = c.turn-item.result in
    let k = c.args.task.now in
    let laid = c.loop-turn.laid.items in
    let known = turn_known (length k.jobs) 1 turns i t c.requires.turns c.loop-turn-test.true c.turn-item.is in
    let place : c.place-place.result < length k.jobs =
    omega (arith, c.place-place.ensures.value, known.job.0, known.job.1) in
    let small = named_small (length k.jobs) laid turns i c.place-place.result c.index_mut.result.now
    c.loop-turn.invariant.laid c.loop-turn.auto.turn-index-end place
    (c.index_mut.ensures.value ∙ get_or_default laid c.place-place.result c.index_mut.result.now 0
    (omega (arith, place, c.loop-turn.invariant.laid.len))) in
    omega (arith, small)

pub loop-turn-preserved : goal.loop-turn-preserved
loop-turn-preserved g c =
    let turns = c.args.turns.now in
    let i = c.loop-turn.turn-index in
    let t = c.turn-item.result in
    let k = c.args.task.now in
    let laid = c.loop-turn.laid.items in
    let free = c.loop-turn.free.items in
    let p = c.place-place.result in
    let ps = c.loop-turn.laying.pieces in
    let a = c.step-machine.result in
    let f = c.index-in-loop-turn.result.now in
    let within = c.loop-turn-test.true in
    let had = c.loop-turn.invariant in
    let known = turn_known (length k.jobs) 1 turns i t c.requires.turns within c.turn-item.is in
    let place : p < length k.jobs = omega (arith, c.place-place.ensures.value, known.job.0, known.job.1) in
    let own : p + 1 ≡ t.job = omega (arith, c.place-place.ensures.value, known.job.0) in
    let step = step_known k turns i t laid p c.index.result.now within c.turn-item.is known had.laid
    c.place-place.ensures.value c.index.ensures c.requires.few in
    let free_read : f ≡ get_or free p 0 =
    c.index-in-loop-turn.ensures ∙ get_or_default free p f 0 (omega (arith, place, had.free.len)) in
    let free_is : f ≡ free_from k ps t.job =
    free_read ∙ had.free.from p place ∙ ap (λ (j : ℕ). free_from k ps j) own in
    let laid_read : c.index_mut.result.now ≡ get_or laid p 0 =
    c.index_mut.ensures.value
    ∙ get_or_default laid p c.index_mut.result.now 0 (omega (arith, place, had.laid.len)) in
    let time = c.time_on-time.result in
    let s = c.in_ok-free-2.field-0 in
    let pushed = c.in_ok-free-2.ensures.pieces
    ∙ ap (λ (m : ℕ). with_operation ps t.job m f time) c.at.ensures in
    record {
      pieces = operations_more k turns i t ps _ a f time within c.turn-item.is
          (c.step-machine.ensures.value ∙ ap (slice_index (steps_of k t.job)) step.0) free_is
          c.time_on-time.ensures.value pushed
          ∙ had.pieces;
      free = subst (λ qs. AreFree k qs (set free p s)) (sym pushed)
          (free_more k ps free t.job (a + 1) p f time s had.free known.job
          c.place-place.ensures.value free_read
          (c.in_ok-free-2.ensures.stop ∙ ap (λ (m : ℕ). stop_on ps m f time) c.at.ensures)
          c.in_ok-free-2.ensures.small);
      laid = named_more turns i t within c.turn-item.is (length k.jobs) laid p c.index_mut.result.now
          had.laid known.job.0 known.job.1 c.place-place.ensures.value laid_read;
      machines = c.add.ensures.machines ∙ had.machines;
    }
