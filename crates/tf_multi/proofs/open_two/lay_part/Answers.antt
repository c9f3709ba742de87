use Rattle.std.proofs.Common.{Bool, not, refl, ap, subst, sym, ◌∙◌, arith}
use Rattle.std.proofs.lemmas.List.Elements.{All-head, All-tail}
use Rattle.tf_model.specs.SchedulingTask.{IsJob}
use Rattle.tf_schedule.specs.declared.semi_active.Operation.{Operation}
use Rattle.tf_multi.specs.OpenShop.{is_early, over_at}
use Rattle.tf_multi.specs.TwoMachines.{time_at, first_machine, second_machine, operation_of}
use Rattle.tf_multi.proofs.LedParts.{machines_differ, other_machine, next_within, last_within, parted_more, parted_all}
use Rattle.tf_multi.proofs.open_two.lay_part.Goals as goal

pub operation-requires-in-loop-job : goal.operation-requires-in-loop-job
operation-requires-in-loop-job g c =
    subst (IsJob c.args.task.now) (sym c.job-item.is)
    (All-tail (IsJob c.args.task.now) c.args.leader c.args.followers.now c.requires.known
    c.loop-job.job-index c.job-item.result c.loop-job-test.true)

pub push_in_part-requires-in-loop-job : goal.push_in_part-requires-in-loop-job
push_in_part-requires-in-loop-job g c =
    let task = c.args.task.now in
    let e = is_early task c.args.leader in
    let first = c.machine_of-first.ensures ∙ ap first_machine c.is_early-early.ensures in
    let u = c.operation-in-loop-job.ensures
    ∙ ap (operation_of (time_at task) c.job-item.result) first in
    omega (
      arith,
      ap (λ (o : Operation). o.time) u,
      (next_within c.args.on_first (time_at task) (first_machine e) (second_machine e)
          (machines_differ e) c.args.pieces.now.items c.args.leader c.args.followers.now
          c.requires.apart c.loop-job.job-index c.job-item.result _ _ _ _ c.loop-job.invariant
          c.loop-job-test.true c.job-item.is refl).0,
      c.requires.within,
    )

pub operation-requires-in-loop-job-2 : goal.operation-requires-in-loop-job-2
operation-requires-in-loop-job-2 g c =
    subst (IsJob c.args.task.now) (sym c.job-item.is)
    (All-tail (IsJob c.args.task.now) c.args.leader c.args.followers.now c.requires.known
    c.loop-job.job-index c.job-item.result c.loop-job-test.true)

pub push_in_part-requires-in-loop-job-2 : goal.push_in_part-requires-in-loop-job-2
push_in_part-requires-in-loop-job-2 g c =
    let task = c.args.task.now in
    let e = is_early task c.args.leader in
    let first = c.machine_of-first.ensures ∙ ap first_machine c.is_early-early.ensures in
    let second = c.machine_of-second.ensures
    ∙ ap (λ (b : Bool). first_machine (not b)) c.is_early-early.ensures ∙ other_machine e in
    let u = c.operation-in-loop-job.ensures
    ∙ ap (operation_of (time_at task) c.job-item.result) first in
    let w = c.operation-in-loop-job-2.ensures
    ∙ ap (operation_of (time_at task) c.job-item.result) second in
    omega (
      arith,
      ap (λ (o : Operation). o.time) w,
      (next_within c.args.on_first (time_at task) (first_machine e) (second_machine e)
          (machines_differ e) c.args.pieces.now.items c.args.leader c.args.followers.now
          c.requires.apart c.loop-job.job-index c.job-item.result _ _ _ _ c.loop-job.invariant
          c.loop-job-test.true c.job-item.is
          (c.in_ok-over.ensures.over
          ∙ ap (λ (o : Operation). over_at c.loop-job.first_free o.time) u)).1,
      c.max-start.ensures,
      c.requires.within,
    )

pub loop-job-preserved : goal.loop-job-preserved
loop-job-preserved g c =
    let task = c.args.task.now in
    let e = is_early task c.args.leader in
    let first = c.machine_of-first.ensures ∙ ap first_machine c.is_early-early.ensures in
    let second = c.machine_of-second.ensures
    ∙ ap (λ (b : Bool). first_machine (not b)) c.is_early-early.ensures ∙ other_machine e in
    parted_more c.args.on_first (time_at task) (first_machine e) (second_machine e)
    (machines_differ e) c.args.pieces.now.items c.args.leader c.args.followers.now
    c.requires.apart c.loop-job.job-index c.job-item.result _ _ _ _ _ _ _ _ _ _
    c.operation-in-loop-job.result c.operation-in-loop-job-2.result c.loop-job.invariant
    c.loop-job-test.true c.job-item.is
    (c.operation-in-loop-job.ensures
    ∙ ap (operation_of (time_at task) c.job-item.result) first)
    (c.operation-in-loop-job-2.ensures
    ∙ ap (operation_of (time_at task) c.job-item.result) second)
    c.in_ok-over.ensures.pieces c.in_ok-over.ensures.over c.max-first_free.ensures
    c.max-start.ensures c.in_ok-last.ensures.pieces c.in_ok-last.ensures.over
    c.max-second_free.ensures

pub operation-requires-2 : goal.operation-requires-2
operation-requires-2 g c =
    All-head (IsJob c.args.task.now) c.args.leader c.args.followers.now c.requires.known

pub push_in_part-requires-2 : goal.push_in_part-requires-2
push_in_part-requires-2 g c =
    let task = c.args.task.now in
    let f = time_at task in
    let r = c.args.leader in
    let e = is_early task r in
    let first = c.machine_of-first.ensures ∙ ap first_machine c.is_early-early.ensures in
    let second = c.machine_of-second.ensures
    ∙ ap (λ (b : Bool). first_machine (not b)) c.is_early-early.ensures ∙ other_machine e in
    let u = c.operation-2.ensures ∙ ap (operation_of f r) first in
    let w = c.operation.ensures ∙ ap (operation_of f r) second in
    omega (
      arith,
      ap (λ (o : Operation). o.time) u,
      last_within c.args.on_first f (first_machine e) (second_machine e) (machines_differ e)
          c.args.pieces.now.items r c.args.followers.now c.requires.apart c.loop-job.job-index _ _
          c.loop-job.invariant.first
          (c.in_ok-leader_over.ensures.over ∙ ap (λ (o : Operation). over_at 0 o.time) w),
      c.max-start-2.ensures,
      c.requires.within,
    )

pub returns : goal.returns
returns g c =
    let task = c.args.task.now in
    let f = time_at task in
    let r = c.args.leader in
    let e = is_early task r in
    let first = c.machine_of-first.ensures ∙ ap first_machine c.is_early-early.ensures in
    let second = c.machine_of-second.ensures
    ∙ ap (λ (b : Bool). first_machine (not b)) c.is_early-early.ensures ∙ other_machine e in
    let w = c.operation.ensures ∙ ap (operation_of f r) second in
    parted_all c.args.on_first f (first_machine e) (second_machine e) (machines_differ e)
    c.args.pieces.now.items r c.args.followers.now c.requires.apart c.loop-job.job-index _ _ _ _ _ _
    c.operation-2.result c.loop-job.invariant c.loop-job-test.false
    (c.in_ok-leader_over.ensures.over ∙ ap (λ (o : Operation). over_at 0 o.time) w)
    (c.operation-2.ensures ∙ ap (operation_of f r) first) c.max-start-2.ensures
    c.in_ok-push_in_part.ensures.pieces
