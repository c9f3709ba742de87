use Rattle.std.proofs.Common.{◌≡◌, ℕ, ◌+◌, ◌<◌, max, length, get_or, ap, ◌∙◌, arith}
use Rattle.std.proofs.lemmas.List.{get_or_default}
use Rattle.tf_posed.specs.ProblemData.{problem_job, problem_release}
use Rattle.tf_bound.specs.Steps.{steps_of}
use Rattle.tf_plan.proofs.Steps.{partly_start, partly_more, serial_more, few_times, next_time, front_small}
use Rattle.tf_plan.proofs.serial.push_job.Goals as goal

pub loop-i-init : goal.loop-i-init
loop-i-init g c =
    let own : c.index-order-place.result ≡ get_or c.args.order.now c.args.place 0 =
    c.index-order-place.is
    ∙ get_or_default c.args.order.now c.args.place c.index-order-place.result 0 c.requires.place in
    partly_start c.args.task.now c.times-times.ensures.sized c.args.order.now c.requires.order
    c.args.place c.requires.place c.args.pieces.now.items c.args.now c.max-end.result
    c.requires.laid
    (c.max-end.ensures ∙ ap (λ r. max c.args.now r) (c.release.ensures.value ∙ ap (problem_release c.args.task.now) own))

pub at-requires : goal.at-requires
at-requires g c =
    let own : c.index-order-place.result ≡ get_or c.args.order.now c.args.place 0 =
    c.index-order-place.is
    ∙ get_or_default c.args.order.now c.args.place c.index-order-place.result 0 c.requires.place in
    omega (
      arith,
      few_times c.args.task.now (get_or c.args.order.now c.args.place 0) c.times-times.ensures.sized
          (c.requires.order.jobs c.args.place 0 c.requires.place),
      ap (λ j. length (problem_job c.args.task.now j).times) own,
      c.step-machine.ensures.timed,
    )

pub push_stretch-requires : goal.push_stretch-requires
push_stretch-requires g c =
    let k = c.args.task.now in
    let j : ℕ = get_or c.args.order.now c.args.place 0 in
    let own : c.index-order-place.result ≡ j =
    c.index-order-place.is
    ∙ get_or_default c.args.order.now c.args.place c.index-order-place.result 0 c.requires.place in
    let machine : c.step-machine.result ≡ get_or (steps_of k j) c.loop-i.i 0 =
    c.step-machine.ensures.value ∙ ap (λ h. get_or (steps_of k h) c.loop-i.i 0) own in
    let time : get_or c.times-times.result.now c.step-machine.result 0
    ≡ get_or (problem_job k j).times (get_or (steps_of k j) c.loop-i.i 0) 0 =
    ap (λ ts. get_or ts c.step-machine.result 0) c.times-times.ensures.value
    ∙ ap (λ h. get_or (problem_job k h).times c.step-machine.result 0) own
    ∙ ap (λ a. get_or (problem_job k j).times a 0) machine in
    let lt : c.loop-i.i < length (steps_of k j) =
    omega (
      arith,
      c.loop-i-test.true,
      c.steps-i-end.ensures.value,
      ap (λ h. length (steps_of k h)) own,
    ) in
    omega (
      arith,
      time,
      c.loop-i.invariant.room,
      next_time k c.times-times.ensures.sized c.args.order.now c.requires.order c.args.place
          c.requires.place c.loop-i.i lt,
      front_small k c.times-times.ensures.sized c.args.order.now c.requires.order c.args.place
          c.requires.place (c.loop-i.i + 1),
    )

pub loop-i-preserved : goal.loop-i-preserved
loop-i-preserved g c =
    let k = c.args.task.now in
    let j : ℕ = get_or c.args.order.now c.args.place 0 in
    let own : c.index-order-place.result ≡ j =
    c.index-order-place.is
    ∙ get_or_default c.args.order.now c.args.place c.index-order-place.result 0 c.requires.place in
    let machine : c.step-machine.result ≡ get_or (steps_of k j) c.loop-i.i 0 =
    c.step-machine.ensures.value ∙ ap (λ h. get_or (steps_of k h) c.loop-i.i 0) own in
    let time : get_or c.times-times.result.now c.step-machine.result 0
    ≡ get_or (problem_job k j).times (get_or (steps_of k j) c.loop-i.i 0) 0 =
    ap (λ ts. get_or ts c.step-machine.result 0) c.times-times.ensures.value
    ∙ ap (λ h. get_or (problem_job k h).times c.step-machine.result 0) own
    ∙ ap (λ a. get_or (problem_job k j).times a 0) machine in
    let lt : c.loop-i.i < length (steps_of k j) =
    omega (
      arith,
      c.loop-i-test.true,
      c.steps-i-end.ensures.value,
      ap (λ h. length (steps_of k h)) own,
    ) in
    partly_more k c.times-times.ensures.sized c.args.order.now c.requires.order c.args.place
    c.requires.place c.loop-i.i lt (get_or c.times-times.result.now c.step-machine.result 0)
    c.at.result c.index-order-place.result c.in_ok-end.end c.loop-i.pieces.items
    c.push_stretch.new.pieces.items c.loop-i.end c.loop-i.invariant time own
    (omega (arith, c.at.ensures, machine)) c.in_ok-end.ensures.pieces c.in_ok-end.ensures.end

pub returns : goal.returns
returns g c =
    let k = c.args.task.now in
    let own : c.index-order-place.result ≡ get_or c.args.order.now c.args.place 0 =
    c.index-order-place.is
    ∙ get_or_default c.args.order.now c.args.place c.index-order-place.result 0 c.requires.place in
    serial_more k c.times-times.ensures.sized c.args.order.now c.requires.order c.args.place
    c.requires.place c.loop-i.i c.loop-i.pieces.items c.loop-i.end c.loop-i.invariant
    (omega (
      arith,
      c.loop-i-test.false,
      c.steps-i-end.ensures.value,
      ap (λ h. length (steps_of k h)) own,
    ))
