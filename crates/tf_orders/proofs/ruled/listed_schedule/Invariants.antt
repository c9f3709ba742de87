use Rattle.std.proofs.Common.{◌≡◌, take}
use Rattle.tf_orders.specs.Laying.{orders_of, schedule_of}
use Rattle.tf_orders.specs.Ruled.{IsListedSchedule, numbers_of}
use Rattle.tf_orders.proofs.ruled.listed_schedule.Given as goal

abbrev pub invariant-loop-seen : goal.invariant-loop-seen
invariant-loop-seen g l =
    let k = g.T.Asks.posed l.task in
    record {
      listed : IsListedSchedule (schedule_of k) (orders_of k) (numbers_of (take l.seen-index l.jobs))
          l.laying.pieces;
      machines : l.laying.machines ≡ k.machines;
    }
