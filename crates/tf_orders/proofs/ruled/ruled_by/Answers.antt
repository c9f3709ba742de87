use Rattle.std.proofs.Common.{subst}
use Rattle.tf_orders.specs.Laying.{orders_of, schedule_of}
use Rattle.tf_orders.specs.Ruled.{IsListedSchedule, numbers_of}
use Rattle.tf_orders.proofs.Listing.{all_jobs_there, all_seen}
use Rattle.tf_orders.proofs.ruled.ruled_by.Goals as goal

pub listed_schedule-requires : goal.listed_schedule-requires
listed_schedule-requires g c =
    rw c.deref.ensures.value
    (all_jobs_there (g.T.Asks.posed c.args.task.now) c.in_ok-jobs.jobs.items
    c.sort_by_rule.new.jobs.items c.in_ok-jobs.ensures c.sort_by_rule.ensures.moved)

pub returns : goal.returns
returns g c =
    let k = g.T.Asks.posed c.args.task.now in
    let listed = subst (λ xs. IsListedSchedule (schedule_of k) (orders_of k) (numbers_of xs)
    c.in_ok-pieces.pieces.items) c.deref.ensures.value c.in_ok-pieces.ensures in
    record {
      jobs = c.sort_by_rule.new.jobs.items;
      are_all = all_seen k c.in_ok-jobs.jobs.items c.sort_by_rule.new.jobs.items
          c.in_ok-jobs.ensures c.sort_by_rule.ensures.moved;
      sorted = c.sort_by_rule.ensures.sorted;
      turns = listed.turns;
      listed = listed.listed;
      pieces = listed.pieces;
    }
