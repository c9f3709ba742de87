use Rattle.std.proofs.Common.{suc, ◌≡◌, ◌+◌, ◌≤◌, length, refl, ap, ◌∙◌, sym, arith}
use Rattle.tf_model.specs.SchedulingTask.{time_of}
use Rattle.tf_schedule.specs.SemiActive.{machine_stop}
use Rattle.tf_multi.proofs.DealtRound.{turns-drop, turns_none, after_turn}
use Rattle.tf_multi.proofs.OneByOne.{left_none}
use Rattle.tf_multi.proofs.spt.lay_turns.Goals as goal

pub loop-place-init : goal.loop-place-init
loop-place-init g c =
    let e : c.args.machine + 1 ≡ suc c.args.machine = omega arith in
    rw (turns-drop c.args.task.now.machines c.args.machine c.args.order.now)
    (record {
      pieces = refl;
      within = omega (arith, c.requires.within);
      machine = ap (machine_stop _) (sym e) ∙ c.requires.free.machine;
      jobs = c.requires.free.jobs;
      apart = c.requires.free.apart;
    })

pub loop-place-preserved : goal.loop-place-preserved
loop-place-preserved g c =
    rw (c.machines-place-step.ensures.value, c.in_ok-now.ensures.end, c.time.ensures.value)
    (after_turn (time_of c.args.task.now) c.args.task.now.machines c.args.machine
    c.loop-place.place c.args.order.now c.loop-place.invariant
    (omega (arith, c.requires.machine)) c.loop-place-test.true c.index-order-place.is
    c.at.ensures c.time.ensures.value c.in_ok-now.ensures.pieces)

pub returns-in_ok-now : goal.returns-in_ok-now
returns-in_ok-now g c =
    let last : length c.args.order.now ≤ c.loop-place.place + c.machines-place-step.result =
    omega arith in
    let left = after_turn (time_of c.args.task.now) c.args.task.now.machines c.args.machine
    c.loop-place.place c.args.order.now c.loop-place.invariant
    (omega (arith, c.requires.machine)) c.loop-place-test.true c.index-order-place.is
    c.at.ensures c.time.ensures.value c.in_ok-now.ensures.pieces in
    left_none (time_of c.args.task.now) (suc c.args.machine) left
    (turns_none c.args.task.now.machines _ c.args.order.now
    (omega (arith, last, c.machines-place-step.ensures.value)))
