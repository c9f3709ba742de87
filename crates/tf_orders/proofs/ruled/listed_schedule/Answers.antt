use Rattle.std.proofs.Common.{subst, ap, take, ◌++◌, ◌∷◌, [], ◌∙◌, sym}
use Rattle.tf_orders.specs.Laying.{with_turn_of, orders_of}
use Rattle.tf_orders.specs.Listed.{IsFirstFree}
use Rattle.tf_orders.specs.Ruled.{numbers_of}
use Rattle.tf_orders.proofs.Listing.{listed_step, numbers_more}
use Rattle.tf_orders.proofs.ruled.listed_schedule.Goals as goal

pub loop-seen-preserved : goal.loop-seen-preserved
loop-seen-preserved g c =
    let k = g.T.Asks.posed c.args.task.now in
    let i = c.loop-seen.seen-index in
    let item = c.seen-item.result in
    let done = numbers_of (take i c.args.jobs.now) in
    record {
      listed = listed_step (with_turn_of k) (orders_of k) done _
          (record { job = item.job; machine = c.first_free-machine.result }) c.loop-seen.laying.pieces _
          c.loop-seen.invariant.listed
          (subst (λ n. IsFirstFree c.loop-seen.laying.pieces n c.first_free-machine.result)
          c.orders.ensures.value c.first_free-machine.ensures)
          c.in_ok-add_turn.ensures.pieces
          (numbers_more c.args.jobs.now i item c.loop-seen-test.true
          ∙ ap (λ x. done ++ x.job ∷ []) (sym c.seen-item.is));
      machines = c.add_turn.ensures.machines ∙ c.loop-seen.invariant.machines;
    }
