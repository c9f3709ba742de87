use Rattle.std.proofs.Common.{◌≤◌}
use Rattle.tf_orders.proofs.Listing.{first_free}
use Rattle.tf_orders.proofs.laying.Laying.first_free.Goals as goal

pub returns : goal.returns
returns g c =
    let self = c.self.inside in
    let some = rw (← c.self.view_is) at c.requires.some in
    let least = rw c.deref.ensures.value at c.place_of_least.ensures in
    rw (← c.self.view_is, c.at.ensures)
    (first_free self.pieces.items self.free.items c.args.machines c.place_of_least.result
    c.self.invariant.stops some.1 least)
