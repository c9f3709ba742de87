use Rattle.std.proofs.Common.{take}
use Rattle.tf_orders.specs.Operations.{AreNamed}
use Rattle.tf_orders.proofs.operations.times_named.Given as goal

abbrev pub invariant-loop-turn : goal.invariant-loop-turn
invariant-loop-turn g l = AreNamed l.jobs l.named.items (take l.turn-index l.turns)
