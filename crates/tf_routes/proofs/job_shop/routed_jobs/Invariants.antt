use Rattle.std.proofs.Common.{◌≡◌, map, take}
use Rattle.tf_routes.specs.JobShop.{routed_job}
use Rattle.tf_routes.proofs.job_shop.routed_jobs.Given as goal

abbrev pub invariant-loop-route : goal.invariant-loop-route
invariant-loop-route g l = l.jobs.items ≡ map routed_job (take l.route-index l.routes)
