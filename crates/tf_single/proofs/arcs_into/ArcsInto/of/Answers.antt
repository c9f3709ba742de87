use Rattle.std.proofs.Common.{◌≡◌, ◌∙◌, length, get_or, replicate, refl, sym, ap, subst, arith}
use Rattle.std.proofs.lemmas.List.{get_or-replicate, length-replicate}
use Rattle.tf_model.specs.SchedulingTask.{SchedulingTask, IsJob}
use Rattle.tf_check.proofs.Followed.{arc_in_task}
use Rattle.tf_single.proofs.ArcsInto.{ArePlaced, next_place, found_all}
use Rattle.tf_single.proofs.arcs_into.ArcsInto.of.Goals as goal

pub loop-from-init : goal.loop-from-init
loop-from-init g c =
    let k : SchedulingTask = c.args.task.now in
    let jobs : c.in_ok-froms.froms.items ≡ replicate (length c.arcs.result.now) c.at.result =
    c.in_ok-froms.ensures.items_if_clones_equal (λ y e. e) in
    record {
      jobs = c.begins-ends.ensures.len;
      count = ap length jobs ∙ length-replicate (length c.arcs.result.now) c.at.result
          ∙ ap length c.arcs.ensures.value;
      known = λ i d lt. subst (IsJob k)
          (sym (ap (λ xs. get_or xs i d) jobs
          ∙ get_or-replicate (length c.arcs.result.now) i c.at.result d
          (omega (
            arith,
            lt,
            ap length jobs,
            length-replicate (length c.arcs.result.now) c.at.result,
          ))))
          (omega (arith, c.at.ensures), omega (arith, c.at.ensures, c.arcs.ensures.sound.some_job));
      at = λ j job. c.begins-ends.ensures.each j job ∙ omega arith;
      each = λ j i job. refl;
    }

pub index-place-requires : goal.index-place-requires
index-place-requires g c =
    let its = arc_in_task c.args.task.now c.arcs.ensures.sound c.arcs-from-items.result.now
    c.arcs-from-items.ensures.value c.loop-from.from-index c.loop-from-item.result
    c.loop-from-test.true c.loop-from-item.is in
    omega (
      arith,
      its.1.0,
      its.1.1,
      c.place-job.ensures.value,
      c.loop-from.invariant.jobs,
      c.loop-from.ends.ok.0,
    )

pub index_mut-requires-in-loop-from : goal.index_mut-requires-in-loop-from
index_mut-requires-in-loop-from g c =
    let its = arc_in_task c.args.task.now c.arcs.ensures.sound c.arcs-from-items.result.now
    c.arcs-from-items.ensures.value c.loop-from.from-index c.loop-from-item.result
    c.loop-from-test.true c.loop-from-item.is in
    omega (
      arith,
      its.1.0,
      its.1.1,
      c.place-job.ensures.value,
      c.loop-from.invariant.jobs,
      c.loop-from.ends.ok.0,
    )

pub index_mut-requires : goal.index_mut-requires
index_mut-requires g c =
    let next = next_place c.args.task.now c.arcs.ensures.sound c.loop-from.from-index
    c.loop-from.ends.items c.loop-from.froms.items c.loop-from.invariant
    c.arcs-from-items.result.now c.arcs-from-items.ensures.value c.loop-from-item.result
    c.loop-from-test.true c.loop-from-item.is c.place-job.result c.index-place.result.now
    c.place-job.ensures.value c.index-place.ensures in
    omega (arith, next.room, c.loop-from.froms.ok.0)

pub overflow_add-place : goal.overflow_add-place
overflow_add-place g c =
    let next = next_place c.args.task.now c.arcs.ensures.sound c.loop-from.from-index
    c.loop-from.ends.items c.loop-from.froms.items c.loop-from.invariant
    c.arcs-from-items.result.now c.arcs-from-items.ensures.value c.loop-from-item.result
    c.loop-from-test.true c.loop-from-item.is c.place-job.result c.index-place.result.now
    c.place-job.ensures.value c.index-place.ensures in
    omega (arith, next.room, c.loop-from.invariant.count, c.arcs.ensures.sound.few_arcs)

pub loop-from-preserved : goal.loop-from-preserved
loop-from-preserved g c =
    let next = next_place c.args.task.now c.arcs.ensures.sound c.loop-from.from-index
    c.loop-from.ends.items c.loop-from.froms.items c.loop-from.invariant
    c.arcs-from-items.result.now c.arcs-from-items.ensures.value c.loop-from-item.result
    c.loop-from-test.true c.loop-from-item.is c.place-job.result c.index-place.result.now
    c.place-job.ensures.value c.index-place.ensures in
    next.next

pub returns : goal.returns
returns g c =
    let k : SchedulingTask = c.args.task.now in
    let end : c.loop-from.from-index ≡ length k.arcs =
    omega (
      arith,
      c.loop-from-test.false,
      c.loop-from.auto.from-index-end,
      ap length c.arcs-from-items.ensures.value,
    ) in
    found_all k c.arcs.ensures.sound c.loop-from.ends.items c.loop-from.froms.items
    (subst (λ n. ArePlaced k n c.loop-from.ends.items c.loop-from.froms.items) end
    c.loop-from.invariant)
