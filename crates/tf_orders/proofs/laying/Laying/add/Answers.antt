use Rattle.std.proofs.Common.{◌≤◌, refl, arith}
use Rattle.std.proofs.lemmas.List.Elements.{All-set}
use Rattle.tf_model.specs.Limit.{limit}
use Rattle.tf_schedule.specs.Piece.{machine_of}
use Rattle.tf_schedule.proofs.Laying.{stops_more}
use Rattle.tf_orders.proofs.Added.{free_is}
use Rattle.tf_orders.proofs.laying.Laying.add.Goals as goal

pub invariant_of-self-2 : goal.invariant_of-self-2
invariant_of-self-2 g c =
    let self = c.self.inside in
    let machine = rw (← c.self.view_is) at c.requires.machine in
    let place = c.place-place.ensures in
    let free = free_is self.pieces.items self.free.items c.args.machine c.place-place.result
    c.index.result.now c.self.invariant.stops place.value place.from_one machine c.index.ensures in
    rw (c.in_ok-push.ensures.items, c.piece_at.ensures) (record {
      stops = stops_more machine_of self.pieces.items self.free.items _ c.args.machine
          c.place-place.result c.stop_after-stop.result c.self.invariant.stops refl place.value
          place.from_one machine
          (omega (arith, free, c.max-start.ensures, c.stop_after-stop.ensures.value))
          refl;
      small = All-set (λ s. s ≤ limit) self.free.items c.place-place.result
          c.stop_after-stop.result c.stop_after-stop.ensures.small c.self.invariant.small;
    })
