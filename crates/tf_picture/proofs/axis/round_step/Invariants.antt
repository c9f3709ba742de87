use Rattle.std.proofs.Common.{◌<◌}
use Rattle.tf_picture.proofs.axis.round_step.Given as goal

abbrev pub invariant-loop : goal.invariant-loop
invariant-loop l = 0 < l.power
