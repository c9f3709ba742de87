use Rattle.std.proofs.Common.{◌≡◌, ◌-◌, ℕ, None, List, Option, get_or, sym, ap, ◌∙◌, arith, rules}
use Rattle.std.proofs.lemmas.List.{get_or_default}
use Rattle.tf_model.specs.SchedulingTask.{SchedulingTask}
use Rattle.tf_single.specs.Progress.{of_job}
use Rattle.tf_single.specs.Successors.{smaller_of}
use Rattle.tf_check.proofs.Followed.{arc_in_task}
use Rattle.tf_single.proofs.Found.{found_none, found_same, found_more, found_some, found_all, found_smallest}
use Rattle.tf_single.proofs.cycle.successors.Goals as goal
use Rattle.tf_single.proofs.cycle.successors.Goals.{then-counts-place-gt0, else-counts-place-gt0}

pub loop-before-init : goal.loop-before-init
loop-before-init g c =
    found_none c.args.task.now c.args.counts.now c.arcs-before-items.result.now
    c.in_ok-next.next.items c.len.result c.len.ensures.value
    (c.in_ok-next.ensures.items_if_clones_equal (λ y e. search rules))

pub bounds-counts-place : goal.bounds-counts-place
bounds-counts-place g c =
    let its = arc_in_task c.args.task.now c.len.ensures.sound c.arcs-before-items.result.now
    c.arcs-before-items.ensures.value c.loop-before.before-index c.loop-before-item.result
    c.loop-before-test.true c.loop-before-item.is in
    omega (arith, its.1.0, its.1.1, c.place.ensures.value, c.requires.len)

pub index-requires : goal.index-requires
index-requires g c =
    let its = arc_in_task c.args.task.now c.len.ensures.sound c.arcs-before-items.result.now
    c.arcs-before-items.ensures.value c.loop-before.before-index c.loop-before-item.result
    c.loop-before-test.true c.loop-before-item.is in
    omega (
      arith,
      its.0.0,
      its.0.1,
      c.place-place.ensures.value,
      c.loop-before.invariant.len,
      c.loop-before.next.ok.0,
    )

pub index_mut-requires : goal.index_mut-requires
index_mut-requires g c =
    let its = arc_in_task c.args.task.now c.len.ensures.sound c.arcs-before-items.result.now
    c.arcs-before-items.ensures.value c.loop-before.before-index c.loop-before-item.result
    c.loop-before-test.true c.loop-before-item.is in
    omega (
      arith,
      its.0.0,
      its.0.1,
      c.place-place.ensures.value,
      c.loop-before.invariant.len,
      c.loop-before.next.ok.0,
    )

pub loop-before-preserved : goal.loop-before-preserved
loop-before-preserved g c =
    let k : SchedulingTask = c.args.task.now in
    let counts : List ℕ = c.args.counts.now in
    let arcs : List (ℕ × ℕ) = c.arcs-before-items.result.now in
    let i : ℕ = c.loop-before.before-index in
    let arc : ℕ × ℕ = c.loop-before-item.result in
    let next : List (Option ℕ) = c.loop-before.next.items in
    let its = arc_in_task k c.len.ensures.sound arcs c.arcs-before-items.ensures.value i arc
    c.loop-before-test.true c.loop-before-item.is in
    let at : get_or arcs i arc ≡ arc = sym c.loop-before-item.is in
    let left : get_or counts c.place.result 0 ≡ of_job counts arc.1 =
    ap (λ n. get_or counts n 0) c.place.ensures.value in
    elim c.if-counts-place-gt0.branch [
      | then-counts-place-gt0 w ↦
          let found : w.index.result.now ≡ get_or next (arc.0 - 1) None =
          w.index.ensures
          ∙ get_or_default next w.place-place.result w.index.result.now None
          (omega (
            arith,
            c.loop-before.invariant.len,
            w.place-place.ensures.value,
            its.0.0,
            its.0.1,
          ))
          ∙ ap (λ n. get_or next n None) w.place-place.ensures.value in
          let which : w.smaller.result ≡ smaller_of (get_or next (arc.0 - 1) None) arc.1 =
          w.smaller.ensures ∙ ap (λ o. smaller_of o arc.1) found in
          let more = found_more k counts arcs i next c.loop-before-test.true arc at
          c.loop-before.invariant (omega (arith, left, w.if-counts-place-gt0.true)) its.0
          w.smaller.result which in
          rw (w.next-is, w.place-place.ensures.value) more
      | else-counts-place-gt0 w ↦
          let same = found_same k counts arcs i next c.loop-before-test.true arc at
          c.loop-before.invariant (omega (arith, left, w.if-counts-place-gt0.false)) in
          rw w.next-is same
    ]

pub returns-clause-are : goal.returns-clause-are
returns-clause-are g c =
    found_all c.args.task.now c.len.ensures.sound c.args.counts.now c.arcs-before-items.result.now
    c.loop-before.before-index c.loop-before.next.items c.arcs-before-items.ensures.value
    c.loop-before-test.false c.loop-before.invariant c.requires.stuck

pub returns-clause-some : goal.returns-clause-some
returns-clause-some g c =
    found_some c.args.task.now c.len.ensures.sound c.args.counts.now c.arcs-before-items.result.now
    c.loop-before.before-index c.loop-before.next.items c.arcs-before-items.ensures.value
    c.loop-before-test.false c.loop-before.invariant c.requires.stuck

pub returns-clause-smallest : goal.returns-clause-smallest
returns-clause-smallest g c =
    found_smallest c.args.task.now c.len.ensures.sound c.args.counts.now
    c.arcs-before-items.result.now c.loop-before.before-index c.loop-before.next.items
    c.arcs-before-items.ensures.value c.loop-before-test.false c.loop-before.invariant
    c.requires.stuck
