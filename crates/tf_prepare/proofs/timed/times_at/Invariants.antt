use Rattle.std.proofs.Common.{◌≡◌, map, take}
use Rattle.std.specs.Prelude.{slice_index}
use Rattle.tf_prepare.proofs.timed.times_at.Given as goal

abbrev pub invariant-loop-machine : goal.invariant-loop-machine
invariant-loop-machine g l =
    l.all.items ≡ map (λ times. slice_index times l.place) (take l.machine-index l.machines)
