use Rattle.tf_model.specs.Limit.{most_machines}
use Rattle.tf_routes.specs.RoutedData.{AreSteps}
use Rattle.tf_prepare.proofs.RoutesOf.{of_each}
use Rattle.tf_prepare.proofs.routed.greatest_named.Goals as goal

pub greatest_on-greatest-requires : goal.greatest_on-greatest-requires
greatest_on-greatest-requires g c =
    of_each (AreSteps most_machines) c.args.routes.now c.loop-route.route-index c.route-item.result
    c.requires c.loop-route-test.true c.route-item.is
