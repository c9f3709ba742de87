use Rattle.std.proofs.Common.{◌≡◌, ◌+◌, ◌<◌, max, length, refl, ap, ◌∙◌, arith}
use Rattle.tf_model.specs.SchedulingTask.{JobData}
use Rattle.tf_schedule.specs.declared.semi_active.Operation.{Operation}
use Rattle.tf_multi.specs.TwoMachines.{time_at, operation_of}
use Rattle.tf_multi.proofs.FlowShop.{waiting_start, waiting_more}
use Rattle.tf_multi.proofs.Numbers.{apart_in_order}
use Rattle.tf_multi.proofs.Ranking.{may_in_order}
use Rattle.tf_multi.proofs.Turning.{turned_start, next_within, turned_more, order_job, order_some, order_total, order_end}
use Rattle.tf_multi.proofs.johnson.turning.lay_second.Goals as goal
use Rattle.tf_multi.proofs.johnson.turning.lay_second.Goals.{then-first-second, else-first-second}

pub loop-i-init : goal.loop-i-init
loop-i-init g c =
    let task = c.args.task.now in
    let order = c.args.order.now in
    rw c.requires.first (record {
      turned = turned_start (time_at task) order;
      waiting = waiting_start (time_at task) order (apart_in_order task order c.requires.order.all)
          (may_in_order task order c.requires.order);
    })

pub job-row-requires : goal.job-row-requires
job-row-requires g c = order_job c.args.task.now c.args.order.now c.requires.order.all c.loop-i.i
    c.index-order-i.result c.loop-i-test.true c.index-order-i.is

pub overflow_add-first : goal.overflow_add-first
overflow_add-first g c =
    let task = c.args.task.now in
    omega (
      arith,
      next_within (time_at task) c.args.order.now c.loop-i.i c.loop-i.first c.loop-i.second c.loop-i.late
          c.index-order-i.result c.loop-i-test.true c.index-order-i.is c.loop-i.invariant.turned,
      order_total task c.args.order.now c.requires.order.all c.requires.sound,
      ap (λ (d : JobData). d.first) c.row.view_is,
      ap (λ (d : JobData). d.second) c.row.view_is,
      ap (λ (d : JobData). d.first) c.job-row.ensures.value,
      ap (λ (d : JobData). d.second) c.job-row.ensures.value,
    )

pub overflow_add-second : goal.overflow_add-second
overflow_add-second g c =
    let task = c.args.task.now in
    omega (
      arith,
      next_within (time_at task) c.args.order.now c.loop-i.i c.loop-i.first c.loop-i.second c.loop-i.late
          c.index-order-i.result c.loop-i-test.true c.index-order-i.is c.loop-i.invariant.turned,
      order_total task c.args.order.now c.requires.order.all c.requires.sound,
      ap (λ (d : JobData). d.first) c.row.view_is,
      ap (λ (d : JobData). d.second) c.row.view_is,
      ap (λ (d : JobData). d.first) c.job-row.ensures.value,
      ap (λ (d : JobData). d.second) c.job-row.ensures.value,
      c.max.ensures,
    )

pub push_stretch-requires : goal.push_stretch-requires
push_stretch-requires g c =
    let task = c.args.task.now in
    omega (
      arith,
      next_within (time_at task) c.args.order.now c.loop-i.i c.loop-i.first c.loop-i.second c.loop-i.late
          c.index-order-i.result c.loop-i-test.true c.index-order-i.is c.loop-i.invariant.turned,
      order_total task c.args.order.now c.requires.order.all c.requires.sound,
      ap (λ (d : JobData). d.first) c.row.view_is,
      ap (λ (d : JobData). d.second) c.row.view_is,
      ap (λ (d : JobData). d.first) c.job-row.ensures.value,
      ap (λ (d : JobData). d.second) c.job-row.ensures.value,
      c.max.ensures,
      ap (λ (o : Operation). o.time) c.operation-operation.ensures,
      ap (time_at task c.index-order-i.result) c.machine_of.ensures,
    )

pub operation-operation-requires : goal.operation-operation-requires
operation-operation-requires g c =
    order_job c.args.task.now c.args.order.now c.requires.order.all c.loop-i.i
    c.index-order-i.result c.loop-i-test.true c.index-order-i.is

pub loop-i-preserved : goal.loop-i-preserved
loop-i-preserved g c =
    let task = c.args.task.now in
    let x = c.index-order-i.result in
    let e = c.loop-i.first in
    let g' = c.loop-i.second in
    let first : c.row.inside.first ≡ time_at task x 1 = omega (
      arith,
      ap (λ (d : JobData). d.first) c.row.view_is,
      ap (λ (d : JobData). d.first) c.job-row.ensures.value,
    ) in
    let second : c.row.inside.second ≡ time_at task x 2 = omega (
      arith,
      ap (λ (d : JobData). d.second) c.row.view_is,
      ap (λ (d : JobData). d.second) c.job-row.ensures.value,
    ) in
    let from : e + c.row.inside.first ≡ e + time_at task x 1 = omega (arith, first) in
    let end : c.max.result + c.row.inside.second ≡ max (e + time_at task x 1) g' + time_at task x 2 =
    omega (arith, c.max.ensures, first, second) in
    record {
      turned = elim c.if-first-second.branch [
        | then-first-second w ↦ rw w.late-is
            (turned_more (time_at task) c.args.order.now c.loop-i.i e g' c.loop-i.late x
            c.loop-i-test.true c.index-order-i.is c.loop-i.invariant.turned
            (e + c.row.inside.first) (c.max.result + c.row.inside.second) c.loop-i.i from end
            (λ lt. refl) (λ le. absurd (omega (arith, le, first, w.if-first-second.true))))
        | else-first-second w ↦ rw w.late-is
            (turned_more (time_at task) c.args.order.now c.loop-i.i e g' c.loop-i.late x
            c.loop-i-test.true c.index-order-i.is c.loop-i.invariant.turned
            (e + c.row.inside.first) (c.max.result + c.row.inside.second) c.loop-i.late from end
            (λ lt. absurd (omega (arith, lt, first, w.if-first-second.false))) (λ le. refl))
      ];
      waiting = waiting_more (time_at task) c.args.order.now c.loop-i.i x c.operation-operation.result
          c.loop-i.invariant.waiting c.loop-i-test.true c.index-order-i.is
          (c.operation-operation.ensures ∙ ap (operation_of (time_at task) x) c.machine_of.ensures)
          from end c.in_ok-push_stretch.ensures.pieces;
    }

pub returns-clause-turn : goal.returns-clause-turn
returns-clause-turn g c =
    let some : 0 < length c.args.order.now =
    order_some c.args.task.now c.args.order.now c.requires.order.all c.requires.sound in
    record {
      place = omega (arith, c.loop-i.invariant.turned.place (omega arith));
      awaited = c.loop-i.invariant.turned.awaited;
      last = λ m from until. c.loop-i.invariant.turned.last m from (omega arith);
    }

pub returns-clause-small : goal.returns-clause-small
returns-clause-small g c = order_end c.args.task.now c.args.order.now c.requires.order.all
    c.requires.sound _ _ _ _ c.loop-i.invariant.turned
