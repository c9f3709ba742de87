use Rattle.std.proofs.Common.{sum_by, slice_index, ◌<◌, length, ap, subst, arith, All}
use Rattle.tf_problem.proofs.RouteLists.{All-before}
use Rattle.tf_bound.proofs.RouteTime.{parts_small}
use Rattle.tf_bound.proofs.route_time.time_before.Goals as goal

pub time_on-requires-clause-machines : goal.time_on-requires-clause-machines
time_on-requires-clause-machines c =
    subst (All (λ a. a < length c.args.times.now)) c.parted.ensures.before
    (All-before (λ a. a < length c.args.times.now) c.args.machine c.args.route.now
    c.requires.route.of_machines)

pub time_on-requires-clause-small : goal.time_on-requires-clause-small
time_on-requires-clause-small c =
    omega (
      arith,
      ap (λ part. sum_by (slice_index c.args.times.now) part) c.parted.ensures.before,
      parts_small c.args.times.now c.args.route.now c.requires.route c.args.machine,
      c.requires.small,
    )

pub returns-clause-small : goal.returns-clause-small
returns-clause-small c =
    omega (
      arith,
      c.time_on.ensures,
      ap (λ part. sum_by (slice_index c.args.times.now) part) c.parted.ensures.before,
      parts_small c.args.times.now c.args.route.now c.requires.route c.args.machine,
      c.requires.small,
    )
