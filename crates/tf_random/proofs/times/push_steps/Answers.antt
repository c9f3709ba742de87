use Rattle.std.proofs.Common.{◌+◌, length, arith}
use Rattle.std.proofs.lemmas.List.{nil_from_length}
use Rattle.tf_random.proofs.Parts.{more_steps, no_steps}
use Rattle.tf_random.proofs.times.push_steps.Goals as goal

pub loop-machine-preserved : goal.loop-machine-preserved
loop-machine-preserved c = record {
  written = more_steps c.args.plan.now c.args.k (c.loop-machine.step + 1) c.in-Some.machine.now
      c.loop-machine.rest.now c.in-Some.more.now c.loop-machine.text.items
      c.push_step.new.text.items _ c.in-Some.ensures.cases.0 c.in_ok-push_step.ensures
      c.loop-machine.invariant.written;
  left = omega (arith, c.in-Some.ensures.cases.1, c.loop-machine.invariant.left);
}

pub returns : goal.returns
returns c =
    no_steps c.args.plan.now c.args.k (c.loop-machine.step + 1) c.loop-machine.rest.now
    c.loop-machine.text.items _ (nil_from_length c.loop-machine.rest.now c.in_default.ensures.cases)
    c.loop-machine.invariant.written
