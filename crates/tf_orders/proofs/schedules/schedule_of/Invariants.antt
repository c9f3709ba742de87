use Rattle.std.proofs.Common.{◌≡◌, [], take}
use Rattle.std.specs.List.{fold}
use Rattle.tf_orders.specs.Laying.{with_turn_of}
use Rattle.tf_orders.proofs.schedules.schedule_of.Given as goal

abbrev pub invariant-loop-turn : goal.invariant-loop-turn
invariant-loop-turn g l =
    let k = g.T.Asks.posed l.task in
    record {
      pieces : l.laying.pieces ≡ fold (with_turn_of k) [] (take l.turn-index l.turns);
      machines : l.laying.machines ≡ k.machines;
    }
