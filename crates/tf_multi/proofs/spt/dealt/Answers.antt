use Rattle.std.proofs.Common.{arith}
use Rattle.tf_model.specs.SchedulingTask.{time_of}
use Rattle.tf_multi.proofs.DealtRound.{laid_more, share_within, jobs_known, dealt_total, turns_free}
use Rattle.tf_multi.proofs.spt.dealt.Goals as goal

pub lay_turns-requires-clause-order : goal.lay_turns-requires-clause-order
lay_turns-requires-clause-order g c = jobs_known _ _ c.len.ensures.sound c.requires

pub lay_turns-requires-clause-free : goal.lay_turns-requires-clause-free
lay_turns-requires-clause-free g c =
    rw c.loop-machine.invariant
    (turns_free c.args.task.now c.args.order.now c.len.ensures.sound c.requires
    c.loop-machine.machine
    (omega (arith, c.loop-machine-test.true, c.machines-machine-end.ensures.value)))

pub lay_turns-requires-clause-within : goal.lay_turns-requires-clause-within
lay_turns-requires-clause-within g c =
    omega (
      arith,
      share_within (time_of c.args.task.now) c.args.task.now.machines c.loop-machine.machine
          c.args.task.now.machines c.args.order.now
          (omega (arith, c.loop-machine-test.true, c.machines-machine-end.ensures.value)),
      dealt_total c.args.task.now c.args.order.now c.len.ensures.sound c.requires,
    )

pub loop-machine-preserved : goal.loop-machine-preserved
loop-machine-preserved g c =
    laid_more (time_of c.args.task.now) c.args.task.now.machines c.loop-machine.machine
    c.args.order.now _ _ c.loop-machine.invariant c.in_ok-lay_turns.ensures
