use Rattle.tf_prepare.proofs.RoutesOf.{routes_within}
use Rattle.tf_prepare.proofs.routed.prepare_routed.Goals as goal

pub assemble-requires : goal.assemble-requires
assemble-requires g c = record {
  count = c.requires.count;
  routes = routes_within c.args.problem.now c.in_ok-machines.machines c.jobs-jobs.result.now
      c.args.routes.now c.in_default-routes_refusal.ensures c.requires.routes;
}
