use Rattle.std.proofs.Common.{◌<◌, length, ◌∙◌, arith}
use Rattle.tf_routes.specs.RoutedData.{AreSteps}
use Rattle.tf_prepare.proofs.RoutesOf.{of_each, row_more}
use Rattle.tf_prepare.proofs.routed.routed_jobs.Goals as goal

pub routed_times-requires : goal.routed_times-requires
routed_times-requires g c =
    let lt : c.loop-k.k < length c.args.routes.now =
    omega (arith, c.requires.count, c.loop-k-test.true) in
    of_each (AreSteps c.args.machines) c.args.routes.now c.loop-k.k c.index-routes-k.result
    c.requires.routes lt c.index-routes-k.is

pub loop-k-preserved : goal.loop-k-preserved
loop-k-preserved g c =
    row_more c.args.problem.now c.args.machines c.args.routes.now c.args.jobs.now c.loop-k.k
    c.index-routes-k.result c.index-jobs-k.result _ _ _ _ _ c.requires.count c.loop-k-test.true
    c.index-jobs-k.is c.index-routes-k.is c.in_ok-routed_times.ensures.times
    c.in_ok-routed_times.ensures.route c.job_in.ensures c.in_ok-push.ensures.items
    ∙ c.loop-k.invariant
