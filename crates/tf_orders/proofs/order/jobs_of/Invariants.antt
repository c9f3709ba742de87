use Rattle.std.proofs.Common.{◌≡◌, take}
use Rattle.tf_orders.specs.Orders.{jobs_of}
use Rattle.tf_orders.proofs.order.jobs_of.Given as goal

abbrev pub invariant-loop-turn : goal.invariant-loop-turn
invariant-loop-turn g l = l.jobs.items ≡ jobs_of (take l.turn-index l.turns)
