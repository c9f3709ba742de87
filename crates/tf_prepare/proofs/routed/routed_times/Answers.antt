use Rattle.std.proofs.Common.{length}
use Rattle.tf_bound.specs.Route.{IsRouted}
use Rattle.tf_prepare.proofs.RouteTimes.{found_routed}
use Rattle.tf_prepare.proofs.routed.routed_times.Goals as goal

pub unreachable-requires : goal.unreachable-requires
unreachable-requires g c =
    let times = c.in_ok-times.times.items in
    let visited = c.in_ok-visited.visited.items in
    let none : ¬ (IsRouted (length times) times visited) =
    rw c.in-None.is at c.in_ok-routed.ensures in
    none (found_routed c.args.machines c.args.route.now times visited c.requires
    c.in_ok-times.ensures c.in_ok-visited.ensures)
