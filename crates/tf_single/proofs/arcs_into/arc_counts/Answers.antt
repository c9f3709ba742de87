use Rattle.std.proofs.Common.{ℕ, List, arith}
use Rattle.tf_model.specs.SchedulingTask.{SchedulingTask}
use Rattle.tf_check.proofs.Followed.{arc_in_task}
use Rattle.tf_single.proofs.ArcCounts.{next_from, next_to, none_counted, all_counted}
use Rattle.tf_single.proofs.arcs_into.arc_counts.Goals as goal

pub loop-before-init : goal.loop-before-init
loop-before-init g c = record {
  successors = none_counted c.args.task.now (λ arc. arc.0) c.len.result c.len.ensures.value
      c.in_ok-successors.successors.items
      (c.in_ok-successors.ensures.items_if_clones_equal (λ y e. e));
  predecessors = none_counted c.args.task.now (λ arc. arc.1) c.len-2.result c.len-2.ensures.value
      c.in_ok-predecessors.predecessors.items
      (c.in_ok-predecessors.ensures.items_if_clones_equal (λ y e. e));
}

pub index_mut-requires : goal.index_mut-requires
index_mut-requires g c =
    let its = arc_in_task c.args.task.now c.len.ensures.sound c.arcs-before-items.result.now
    c.arcs-before-items.ensures.value c.loop-before.before-index c.loop-before-item.result
    c.loop-before-test.true c.loop-before-item.is in
    omega (
      arith,
      its.0.0,
      its.0.1,
      c.place.ensures.value,
      c.loop-before.invariant.successors.len,
      c.loop-before.successors.ok.0,
    )

pub index_mut-requires-in-loop-before : goal.index_mut-requires-in-loop-before
index_mut-requires-in-loop-before g c =
    let its = arc_in_task c.args.task.now c.len.ensures.sound c.arcs-before-items.result.now
    c.arcs-before-items.ensures.value c.loop-before.before-index c.loop-before-item.result
    c.loop-before-test.true c.loop-before-item.is in
    omega (
      arith,
      its.1.0,
      its.1.1,
      c.place-in-loop-before.ensures.value,
      c.loop-before.invariant.predecessors.len,
      c.loop-before.predecessors.ok.0,
    )

pub overflow_add-index_mut : goal.overflow_add-index_mut
overflow_add-index_mut g c =
    let counted = next_from c.args.task.now c.len.ensures.sound c.arcs-before-items.result.now
    c.arcs-before-items.ensures.value c.loop-before.before-index c.loop-before-item.result
    c.loop-before-test.true c.loop-before-item.is c.loop-before.successors.items
    c.loop-before.invariant.successors c.place.result c.index_mut.result.now c.place.ensures.value
    c.index_mut.ensures.value in
    omega (arith, counted.few)

pub overflow_add-index_mut-in-loop-before : goal.overflow_add-index_mut-in-loop-before
overflow_add-index_mut-in-loop-before g c =
    let counted = next_to c.args.task.now c.len.ensures.sound c.arcs-before-items.result.now
    c.arcs-before-items.ensures.value c.loop-before.before-index c.loop-before-item.result
    c.loop-before-test.true c.loop-before-item.is c.loop-before.predecessors.items
    c.loop-before.invariant.predecessors c.place-in-loop-before.result
    c.index_mut-in-loop-before.result.now c.place-in-loop-before.ensures.value
    c.index_mut-in-loop-before.ensures.value in
    omega (arith, counted.few)

pub loop-before-preserved : goal.loop-before-preserved
loop-before-preserved g c =
    let k : SchedulingTask = c.args.task.now in
    let arcs : List (ℕ × ℕ) = c.arcs-before-items.result.now in
    let from = next_from k c.len.ensures.sound arcs c.arcs-before-items.ensures.value
    c.loop-before.before-index c.loop-before-item.result c.loop-before-test.true
    c.loop-before-item.is c.loop-before.successors.items c.loop-before.invariant.successors
    c.place.result c.index_mut.result.now c.place.ensures.value c.index_mut.ensures.value in
    let to = next_to k c.len.ensures.sound arcs c.arcs-before-items.ensures.value
    c.loop-before.before-index c.loop-before-item.result c.loop-before-test.true
    c.loop-before-item.is c.loop-before.predecessors.items c.loop-before.invariant.predecessors
    c.place-in-loop-before.result c.index_mut-in-loop-before.result.now
    c.place-in-loop-before.ensures.value c.index_mut-in-loop-before.ensures.value in
    record { successors = from.next; predecessors = to.next }

pub returns-clause-successors : goal.returns-clause-successors
returns-clause-successors g c =
    all_counted c.args.task.now (λ arc. arc.0) c.arcs-before-items.result.now
    c.arcs-before-items.ensures.value c.loop-before.before-index
    (omega (arith, c.loop-before-test.false, c.loop-before.auto.before-index-end))
    c.loop-before.successors.items c.loop-before.invariant.successors

pub returns-clause-predecessors : goal.returns-clause-predecessors
returns-clause-predecessors g c =
    all_counted c.args.task.now (λ arc. arc.1) c.arcs-before-items.result.now
    c.arcs-before-items.ensures.value c.loop-before.before-index
    (omega (arith, c.loop-before-test.false, c.loop-before.auto.before-index-end))
    c.loop-before.predecessors.items c.loop-before.invariant.predecessors
