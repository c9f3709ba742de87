use Rattle.std.proofs.Common.{◌≡◌, [], length, drop, take}
use Rattle.tf_orders.specs.Operations.{AreFree, AreNamed, with_operations}
use Rattle.tf_orders.proofs.operations.operation_schedule_of.Given as goal

abbrev pub invariant-loop-turn : goal.invariant-loop-turn
invariant-loop-turn g l = record {
  pieces : with_operations l.task (take l.turn-index l.turns) l.laying.pieces (drop l.turn-index l.turns)
      ≡ with_operations l.task [] [] l.turns;
  free : AreFree l.task l.laying.pieces l.free.items;
  laid : AreNamed (length l.task.jobs) l.laid.items (take l.turn-index l.turns);
  machines : l.laying.machines ≡ l.task.machines;
}
