use Rattle.std.proofs.Common.{◌≡◌, ◌++◌, ◌+◌, length}
use Rattle.tf_random.specs.Table.{steps}
use Rattle.tf_random.proofs.times.push_steps.Given as goal

-- the steps so far are written
abbrev pub invariant-loop-machine : goal.invariant-loop-machine
invariant-loop-machine l = record {
  written : l.text.items ++ steps l.plan l.k (l.step + 1) l.rest
      ≡ l.fn.text.items ++ steps l.plan l.k 1 l.fn.machines;
  left : l.step + length l.rest ≡ l.plan.machines;
}

abbrev pub decreases-loop-machine : goal.decreases-loop-machine
decreases-loop-machine l = length l.rest
